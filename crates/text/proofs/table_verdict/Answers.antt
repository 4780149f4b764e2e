-- `table_verdict` meets its contract: the order of the checks is that of `in_order`.
use mathlib.Core.Path.{refl, sym, ◌∙◌}
use Rattle.table.proofs.Refusing.{handed_on}
use Rattle.table.proofs.Faults.{in_order_sizes, in_order_room, in_order_arcs}
use Rattle.text.specs.Reading.{table_verdict}
use Rattle.text.proofs.Counting.{sizes_of_arcs}
use Rattle.text.proofs.table_verdict.Goals as goal

pub returns-in_err-sizes : goal.returns-in_err-sizes
unfolding table_verdict
returns-in_err-sizes c =
    handed_on c.from_residual.result c.from_residual.ensures.1 (λ y is. is) ∙ sym c.in_err-sizes.was
    ∙ in_order_sizes {found = c.sizes.result} (c.sizes.ensures ∙ sizes_of_arcs c.args.header _ c.requires.1) _ _ (rw c.in_err-sizes.was refl)

pub returns-then-not-has_arc_room : goal.returns-then-not-has_arc_room
unfolding table_verdict
returns-then-not-has_arc_room c =
    rw c.at.ensures
    (in_order_room {found = c.sizes.result} (c.sizes.ensures ∙ sizes_of_arcs c.args.header _ c.requires.1) _ _ (rw c.in_ok-sizes.was refl)
    (sym c.has_arc_room.ensures ∙ c.if-not-has_arc_room.true))

pub returns : goal.returns
unfolding table_verdict
returns c =
    c.first_fault.ensures
    ∙ in_order_arcs {found = c.sizes.result} (c.sizes.ensures ∙ sizes_of_arcs c.args.header _ c.requires.1) _ _ (rw c.in_ok-sizes.was refl)
    (sym c.has_arc_room.ensures ∙ c.if-not-has_arc_room.false)
