-- `do_differ` meets its contract: each way through the tests is one case of `differ`.
use borrow.Author.Tests.{ne_eqb, eq-eqb}
use Rattle.table.specs.Checks.{differ}
use Rattle.table.proofs.do_differ.Goals as goal

pub returns-then-tails-heads : goal.returns-then-tails-heads
unfolding differ
returns-then-tails-heads c = simp (ne_eqb _ _ c.if-tails-heads.true)

pub returns-else-tails-heads : goal.returns-else-tails-heads
unfolding differ
returns-else-tails-heads c = simp (eq-eqb _ _ c.if-tails-heads.false)
