-- `leave` meets its contract: the place that was found is noted.
use mathlib.Core.Path.{◌∙◌}
use Rattle.walks.proofs.Scanning.{ahead_noted, placed_number}
use Rattle.walks.proofs.leave.Goals as goal

pub returns-clause-ahead : goal.returns-clause-ahead
returns-clause-ahead c =
    ahead_noted _ _ _ _ _ c.requires.node.0 c.requires.node.1 (c.unwrap_or.ensures ∙ placed_number _ _ _ c.next_place-next.ensures) _ c.set_node.ensures
