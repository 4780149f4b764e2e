-- `place_verdict` meets its contract, by its test.
use borrow.Author.Tests.{le-leb, lt-leb}
use Rattle.planner.proofs.place_verdict.Goals as goal

pub returns-then-m-place : goal.returns-then-m-place
returns-then-m-place c = simp (c.at.ensures, le-leb _ _ c.if-m-place.true)

pub returns : goal.returns
returns c = simp (lt-leb _ _ c.if-m-place.false)
