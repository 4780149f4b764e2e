-- `text_verdict` meets its contract: LONG, the table's own checks, ROOM.
use mathlib.Core.Path.{refl, sym, ◌∙◌}
use Rattle.table.proofs.Refusing.{handed_on}
use Rattle.minimums.specs.BoundedTable.{bounded_in}
use Rattle.intake.proofs.Verdicts.{text_long, text_table, text_room, text_fine}
use Rattle.intake.proofs.text_verdict.Goals as goal

pub returns-then-text-gt1048576 : goal.returns-then-text-gt1048576
returns-then-text-gt1048576 c = rw c.at.ensures (text_long (bounded_in c.args.bounded.now) c.args.text c.args.room c.if-text-gt1048576.true)

pub returns-in_err-plain_check : goal.returns-in_err-plain_check
returns-in_err-plain_check c =
    handed_on c.from_residual.result c.from_residual.ensures.1 (λ y is. is) ∙ sym c.in_err-plain_check.was
    ∙ text_table (bounded_in c.args.bounded.now) c.args.text c.args.room c.if-text-gt1048576.false {found = c.plain_check.result} c.plain_check.ensures (rw c.in_err-plain_check.was refl)

pub returns-then-not-room : goal.returns-then-not-room
returns-then-not-room c =
    rw c.at-then-not-room.ensures
    (text_room (bounded_in c.args.bounded.now) c.args.text c.args.room c.if-text-gt1048576.false {found = c.plain_check.result} c.plain_check.ensures (rw c.in_ok-plain_check.was refl) c.if-not-room.true)

pub returns : goal.returns
returns c =
    text_fine (bounded_in c.args.bounded.now) c.args.text c.args.room c.if-text-gt1048576.false {found = c.plain_check.result} c.plain_check.ensures (rw c.in_ok-plain_check.was refl) c.if-not-room.false
