-- `arc_fault` meets its contract: the fault of three numbers, then MINIMUM.
use mathlib.Core.Path.{refl, sym, ◌∙◌}
use borrow.Author.Tests.{lt-ltb, le-ltb}
use Rattle.table.proofs.Refusing.{handed_on}
use Rattle.minimums.specs.Checks.{bounded_fault}
use Rattle.minimums.proofs.Order.{refuses_first, gives_way}
use Rattle.minimums.proofs.arc_fault.Goals as goal

pub returns-in_err-arc_fault : goal.returns-in_err-arc_fault
unfolding bounded_fault
returns-in_err-arc_fault c =
    handed_on c.from_residual.result c.from_residual.ensures.1 (λ y is. is) ∙ sym c.in_err-arc_fault.was
    ∙ refuses_first {found = c.arc_fault.result} c.arc_fault.ensures _ (rw c.in_err-arc_fault.was refl)

pub returns-then-arc : goal.returns-then-arc
unfolding bounded_fault
returns-then-arc c =
    gives_way {found = c.arc_fault.result} c.arc_fault.ensures (rw c.in_ok-arc_fault.was refl)
    (rw (c.at.ensures, lt-ltb _ _ c.if-arc.true) refl)

pub returns : goal.returns
unfolding bounded_fault
returns c =
    gives_way {found = c.arc_fault.result} c.arc_fault.ensures (rw c.in_ok-arc_fault.was refl)
    (rw (le-ltb _ _ c.if-arc.false) refl)
