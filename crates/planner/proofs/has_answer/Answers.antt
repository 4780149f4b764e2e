-- `has_answer` meets its contract, test by test.
use borrow.Author.Tests.{le-leb, lt-leb}
use Rattle.planner.specs.Reading.{has_answer}
use Rattle.planner.proofs.has_answer.Goals as goal

pub returns-then-flow-table : goal.returns-then-flow-table
unfolding has_answer
returns-then-flow-table c = simp (lt-leb _ _ c.if-flow-table.true)

pub returns : goal.returns
unfolding has_answer
returns c = simp (le-leb _ _ c.if-flow-table.false)
