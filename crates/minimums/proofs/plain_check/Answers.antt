-- `plain_check` meets its contract: the table's own checks, then BOUNDED.
use mathlib.Core.Path.{refl, sym, ◌∙◌}
use Rattle.table.proofs.Refusing.{handed_on}
use Rattle.minimums.proofs.Order.{refuses_first, gives_way}
use Rattle.minimums.proofs.plain_check.Goals as goal

pub returns-in_err-check : goal.returns-in_err-check
returns-in_err-check c =
    handed_on c.from_residual.result c.from_residual.ensures.1 (λ y is. is) ∙ sym c.in_err-check.was
    ∙ refuses_first {found = c.check.result} c.check.ensures _ (rw c.in_err-check.was refl)

pub returns-then-not-is_all_zero : goal.returns-then-not-is_all_zero
returns-then-not-is_all_zero c =
    gives_way {found = c.check.result} c.check.ensures (rw c.in_ok-check.was refl)
    (rw (c.at.ensures, ← c.is_all_zero.ensures, c.if-not-is_all_zero.true) refl)

pub returns : goal.returns
returns c =
    gives_way {found = c.check.result} c.check.ensures (rw c.in_ok-check.was refl)
    (rw (← c.is_all_zero.ensures, c.if-not-is_all_zero.false) refl)
