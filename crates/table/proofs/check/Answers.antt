-- `check` meets its contract: the order of the checks is that of `in_order`; fine sizes give what `first_fault` requires.
use Rattle.table.specs.Checks.{is_fine}
use Rattle.table.proofs.Faults.{in_order_sizes, in_order_room, in_order_arcs}
use Rattle.table.proofs.Accepts.{sizes_fine}
use Rattle.table.proofs.Refusing.{handed_on}
use mathlib.Core.Path.{refl, sym, ap, ◌∙◌}
use Rattle.table.proofs.check.Goals as goal

pub returns-in_err-sizes : goal.returns-in_err-sizes
returns-in_err-sizes c =
    handed_on c.from_residual.result c.from_residual.ensures.1 (λ y is. is) ∙ sym c.in_err-sizes.was
    ∙ in_order_sizes {found = c.sizes.result} c.sizes.ensures _ _ (rw c.in_err-sizes.was refl)

pub returns-then-not-room : goal.returns-then-not-room
returns-then-not-room c =
    rw c.at.ensures
    (in_order_room {found = c.sizes.result} c.sizes.ensures _ _ (rw c.in_ok-sizes.was refl) c.if-not-room.true)

pub first_fault-requires : goal.first_fault-requires
first_fault-requires c =
    let h = sizes_fine _ _ _ _ _ _ (ap is_fine (sym c.sizes.ensures) ∙ rw c.in_ok-sizes.was refl) in
    (h.few, h.heads_same, h.capacities_same)

pub returns : goal.returns
returns c =
    c.first_fault.ensures ∙ in_order_arcs {found = c.sizes.result} c.sizes.ensures _ _ (rw c.in_ok-sizes.was refl) c.if-not-room.false
