-- `arc_fault` meets its contract: at each return the tests that led there say which case of `arc_fault` holds.
use Rattle.table.specs.Checks.{arc_fault}
use borrow.Author.Tests.{ne_eqb, eq-eqb, lt-ltb, le-ltb}
use Rattle.table.proofs.arc_fault.Goals as goal

pub returns-then-is_outside : goal.returns-then-is_outside
unfolding arc_fault
returns-then-is_outside c = simp (← c.is_outside.ensures, c.if-is_outside.true, c.at.ensures)

pub returns-then-is_outside-2 : goal.returns-then-is_outside-2
unfolding arc_fault
returns-then-is_outside-2 c = simp (← c.is_outside.ensures, c.if-is_outside.false, ← c.is_outside-2.ensures, c.if-is_outside-2.true, c.at-then-is_outside-2.ensures)

pub returns-then-tail-head : goal.returns-then-tail-head
unfolding arc_fault
returns-then-tail-head c =
    simp (← c.is_outside.ensures, c.if-is_outside.false, ← c.is_outside-2.ensures, c.if-is_outside-2.false, eq-eqb _ _ c.if-tail-head.true, c.at-then-tail-head.ensures)

pub returns-then-capacity-gt1000000 : goal.returns-then-capacity-gt1000000
unfolding arc_fault
returns-then-capacity-gt1000000 c =
    simp (← c.is_outside.ensures, c.if-is_outside.false, ← c.is_outside-2.ensures, c.if-is_outside-2.false, ne_eqb _ _ c.if-tail-head.false, lt-ltb _ _ c.if-capacity-gt1000000.true, c.at-then-capacity-gt1000000.ensures)

pub returns : goal.returns
unfolding arc_fault
returns c =
    simp (← c.is_outside.ensures, c.if-is_outside.false, ← c.is_outside-2.ensures, c.if-is_outside-2.false, ne_eqb _ _ c.if-tail-head.false, le-ltb _ _ c.if-capacity-gt1000000.false)
