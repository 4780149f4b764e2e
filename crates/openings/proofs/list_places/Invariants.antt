-- `list_places` meets its contract: the test of an arc is that it would help.
use Rattle.openings.specs.Helping.{helps_from}
use Rattle.openings.specs.contracts.fn.list_places.list_passing as closure
use Rattle.openings.proofs.list_places.Given as goal

abbrev pub ghost-list_passing : goal.ghost-list_passing
ghost-list_passing a = let held = closure.captures a.passes in helps_from held.side.now held.drains.now held.tails.now held.heads.now
