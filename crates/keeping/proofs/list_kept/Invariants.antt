-- `list_kept` meets its contract: the test of a node is that the two rows keep it.
use Rattle.shrinking.specs.Smaller.{node_by}
use Rattle.keeping.specs.contracts.fn.list_kept.list_passing as closure
use Rattle.keeping.proofs.list_kept.Given as goal

abbrev pub ghost-list_passing : goal.ghost-list_passing
ghost-list_passing a =
    let held = closure.captures a.passes in node_by held.ahead.now held.behind.now held.s held.t
