-- `has_text_room` meets its contract: the flow row first, then the text's bytes.
use native.Mathlib.Omega.{arith}
use Rattle.table.specs.Table.{table_of, table_in}
use Rattle.wording.proofs.Lengths.{text_bytes}
use Rattle.solution.proofs.Writing.{flow_short, flow_long}
use mathlib.Core.Path.{◌∙◌}
use borrow.Author.Tests.{lt-leb}
use Rattle.solution.proofs.has_text_room.Goals as goal

pub returns-else-table-flow : goal.returns-else-table-flow
returns-else-table-flow c =
    let a = c.args in
    lt-leb _ _ c.if-table-flow.false ∙ flow_short (table_in a.table.now) a.value a.flow.now a.text c.if-table-flow.false

pub returns-then-table-flow : goal.returns-then-table-flow
returns-then-table-flow c =
    let a = c.args in
    let table = table_in a.table.now in
    flow_long table a.value a.flow.now a.text c.if-table-flow.true _
    (omega (arith, c.digit_count.ensures.0, c.lines_length.ensures.0, text_bytes table a.value a.flow.now))
