-- `reading_verdict` meets its contract: each check gives way to the next where it finds nothing.
use mathlib.Core.Path.{◌≡◌, refl, sym, ap, ◌∙◌}
use lib.ListN.{length}
use Rattle.table.proofs.Refusing.{handed_on}
use Rattle.minimums.specs.BoundedTable.{BoundedTable, bounded_in}
use Rattle.minimums.specs.Checks.{bounded_check}
use Rattle.planner.specs.Reading.{reading_verdict}
use Rattle.minimums.proofs.Order.{refuses_first, gives_way}
use Rattle.planner.proofs.reading_verdict.Goals as goal

pub returns-in_err-check : goal.returns-in_err-check
unfolding reading_verdict
returns-in_err-check c =
    handed_on c.from_residual.result c.from_residual.ensures.1 (λ y is. is) ∙ sym c.in_err-check.was
    ∙ refuses_first {found = c.check.result} (c.check.ensures ∙ ap (bounded_check (bounded_in c.args.bounded.now)) c.has_answer-room.ensures) _
    (rw c.in_err-check.was refl)

pub returns-in_err-stamp_verdict : goal.returns-in_err-stamp_verdict
unfolding reading_verdict
returns-in_err-stamp_verdict c =
    gives_way {found = c.check.result} (c.check.ensures ∙ ap (bounded_check (bounded_in c.args.bounded.now)) c.has_answer-room.ensures)
    (rw c.in_ok-check.was refl)
    (handed_on c.from_residual-in_err-stamp_verdict.result c.from_residual-in_err-stamp_verdict.ensures.1 (λ y is. is) ∙ sym c.in_err-stamp_verdict.was
    ∙ refuses_first {found = c.stamp_verdict.result} c.stamp_verdict.ensures _ (rw c.in_err-stamp_verdict.was refl))

pub returns : goal.returns
unfolding reading_verdict
returns c =
    gives_way {found = c.check.result} (c.check.ensures ∙ ap (bounded_check (bounded_in c.args.bounded.now)) c.has_answer-room.ensures)
    (rw c.in_ok-check.was refl)
    (gives_way {found = c.stamp_verdict.result} c.stamp_verdict.ensures (rw c.in_ok-stamp_verdict.was refl) c.place_verdict.ensures)
