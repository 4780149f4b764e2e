-- `take_away` meets its contract. The invariant: what is left to take away are the places from the next on.
use mathlib.Core.Path.{sym, ◌∙◌}
use Rattle.walks.proofs.Scanning.{away_turn, away_done}
use Rattle.walks.proofs.take_away.Goals as goal

pub loop-place-preserved : goal.loop-place-preserved
loop-place-preserved c = c.loop-place.invariant ∙ away_turn _ _ _ _ c.loop-place-test.true ∙ rw (sym c.saturating_sub.ensures)

pub returns : goal.returns
returns c = sym (c.loop-place.invariant ∙ away_done _ _ _ _ c.loop-place-test.false)
