-- `writing_verdict` meets its contract: the table's own checks, ROOM, SOLUTION.
use native.Mathlib.Omega.{arith}
use mathlib.Core.Path.{◌≡◌, refl, sym, ◌∙◌}
use mathlib.Core.Bool.{true}
use Rattle.table.specs.Accepted.{Accepted}
use Rattle.table.specs.Checks.{is_fine}
use Rattle.table.proofs.Refusing.{handed_on}
use Rattle.minimums.specs.BoundedTable.{BoundedTable, bounded_in}
use Rattle.solution.proofs.Writing.{room_flow, verdict_table, verdict_room, verdict_numbers, table_arcs, accepted_arcs}
use Rattle.solution.proofs.writing_verdict.Goals as goal

pub returns-in_err-plain_check : goal.returns-in_err-plain_check
returns-in_err-plain_check c =
    handed_on c.from_residual.result c.from_residual.ensures.1 (λ y is. is) ∙ sym c.in_err-plain_check.was
    ∙ verdict_table (bounded_in c.args.bounded.now) c.args.value c.args.flow.now c.args.text {found = c.plain_check.result} c.plain_check.ensures (rw c.in_err-plain_check.was refl)

pub has_text_room-requires : goal.has_text_room-requires
has_text_room-requires c =
    let table : BoundedTable = bounded_in c.args.bounded.now in
    let accepted : Accepted table.table = table_arcs table c.args.value c.args.flow.now c.args.text {found = c.plain_check.result} c.plain_check.ensures (rw c.in_ok-plain_check.was refl) in
    accepted_arcs table.table accepted c.args.bounded.now.table.capacities.now (omega arith)

pub returns-then-not-has_text_room : goal.returns-then-not-has_text_room
returns-then-not-has_text_room c =
    rw c.at.ensures
    (verdict_room (bounded_in c.args.bounded.now) c.args.value c.args.flow.now c.args.text {found = c.plain_check.result} c.plain_check.ensures (rw c.in_ok-plain_check.was refl) c.has_text_room.ensures c.if-not-has_text_room.true)

pub numbers_verdict-requires : goal.numbers_verdict-requires
numbers_verdict-requires c =
    let table : BoundedTable = bounded_in c.args.bounded.now in
    let ok : Accepted table.table = table_arcs table c.args.value c.args.flow.now c.args.text {found = c.plain_check.result} c.plain_check.ensures (rw c.in_ok-plain_check.was refl) in (
      omega (arith, ok.rows.capacities_long, ok.rows.ends.few_arcs),
      room_flow table.table c.args.value c.args.flow.now c.args.text c.has_text_room.ensures c.if-not-has_text_room.false,
    )

pub returns : goal.returns
returns c =
    verdict_numbers (bounded_in c.args.bounded.now) c.args.value c.args.flow.now c.args.text {found = c.plain_check.result} c.plain_check.ensures (rw c.in_ok-plain_check.was refl) c.has_text_room.ensures c.if-not-has_text_room.false c.numbers_verdict.ensures
