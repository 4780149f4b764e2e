-- `are_bad_ends` meets its contract: each way through the tests is one case of `bad_ends`.
use Rattle.table.specs.Checks.{bad_ends}
use Rattle.table.proofs.are_bad_ends.Goals as goal

pub returns-then-is_outside : goal.returns-then-is_outside
unfolding bad_ends
returns-then-is_outside c = simp (← c.is_outside.ensures, c.if-is_outside.true)

pub returns-then-is_outside-2 : goal.returns-then-is_outside-2
unfolding bad_ends
returns-then-is_outside-2 c = simp (← c.is_outside.ensures, c.if-is_outside.false, ← c.is_outside-2.ensures, c.if-is_outside-2.true)

pub returns : goal.returns
unfolding bad_ends
returns c = simp (← c.is_outside.ensures, c.if-is_outside.false, ← c.is_outside-2.ensures, c.if-is_outside-2.false)
