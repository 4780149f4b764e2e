-- `is_outside` meets its contract: each way through the tests is one case of `outside`.
use borrow.Author.Tests.{lt-ltb, le-ltb}
use Rattle.table.specs.Checks.{outside}
use Rattle.table.proofs.is_outside.Goals as goal

pub returns-then-x-low : goal.returns-then-x-low
unfolding outside
returns-then-x-low c = simp (lt-ltb _ _ c.if-x-low.true)

pub returns-else-x-low : goal.returns-else-x-low
unfolding outside
returns-else-x-low c = simp (le-ltb _ _ c.if-x-low.false)
