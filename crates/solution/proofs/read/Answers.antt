-- `read` meets its contract: what comes before the text is read, and then the text.
use mathlib.Core.Path.{◌∙◌}
use Rattle.minimums.specs.BoundedTable.{BoundedTable, bounded_of, bounded_in}
use Rattle.solution.proofs.Reading.{reading_refused, reading_fine, reading_accepts}
use Rattle.solution.proofs.Writing.{accepted_arcs}
use Rattle.solution.proofs.read.Goals as goal

pub read_text-requires : goal.read_text-requires
read_text-requires c =
    let table : BoundedTable = let a = c.args in bounded_in a.bounded.now in
    let a = c.args in
    let (ok, room) = reading_accepts table a.text.now a.flow.now _ c.text_verdict.ensures c.in-Ok.is in
    accepted_arcs table.table ok a.flow.now room

pub returns-in-Err : goal.returns-in-Err
returns-in-Err c =
    let table : BoundedTable = let a = c.args in bounded_in a.bounded.now in
    let a = c.args in
    reading_refused table a.text.now a.flow.now _ c.text_verdict.ensures c.into.result _ _ c.in-Err.is c.into.ensures

pub returns-in-Ok : goal.returns-in-Ok
returns-in-Ok c =
    let table : BoundedTable = let a = c.args in bounded_in a.bounded.now in
    let a = c.args in
    c.read_text.ensures ∙ reading_fine table a.text.now a.flow.now _ c.text_verdict.ensures c.in-Ok.is
