-- `solve_columns` meets its contract: each return is the case that its test left.
use borrow.Author.Tests.{lt-ltb, le-ltb}
use Rattle.records.proofs.solve_columns.Goals as goal

pub returns-then-m-gt4096 : goal.returns-then-m-gt4096
returns-then-m-gt4096 c = simp (lt-ltb _ _ c.if-m-gt4096.true) c.solve.ensures.exact

pub returns : goal.returns
returns c = simp (le-ltb _ _ c.if-m-gt4096.false) c.solve-2.ensures.exact
