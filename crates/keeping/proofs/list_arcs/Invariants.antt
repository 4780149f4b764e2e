-- `list_arcs` meets its contract: the test of an arc is that the two rows keep it.
use Rattle.shrinking.specs.Smaller.{arc_by}
use Rattle.keeping.specs.contracts.fn.list_arcs.list_passing as closure
use Rattle.keeping.proofs.list_arcs.Given as goal

abbrev pub ghost-list_passing : goal.ghost-list_passing
ghost-list_passing a =
    let held = closure.captures a.passes in arc_by held.ahead.now held.behind.now held.tails.now held.heads.now held.capacities.now
