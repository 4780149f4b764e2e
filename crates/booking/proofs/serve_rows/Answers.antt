-- `serve_rows` meets its contract: the verdict, then its refusal or the accepted table.
use mathlib.Core.Path.{◌≡◌, sym, ap, ◌∙◌}
use Rattle.table.specs.Table.{Table, table_of, table_in}
use Rattle.table.specs.Checks.{check_of}
use Rattle.wire.specs.Solve.{serving_verdict}
use Rattle.wire.proofs.Serving.{serves_refusal}
use Rattle.booking.proofs.serve_rows.Goals as goal

pub serve_accepted-requires : goal.serve_accepted-requires
serve_accepted-requires c =
    let table : Table = table_in c.args.table.now in
    let found : c.check.result ≡ serving_verdict table c.args.flow.now c.args.side.now c.args.res.now = c.check.ensures ∙ ap (check_of table) c.has_byte_room-room.ensures in
    sym found ∙ c.in-Ok.is

pub returns-in-Err : goal.returns-in-Err
returns-in-Err c =
    let table : Table = table_in c.args.table.now in
    let found : c.check.result ≡ serving_verdict table c.args.flow.now c.args.side.now c.args.res.now = c.check.ensures ∙ ap (check_of table) c.has_byte_room-room.ensures in
    let given = c.args in
    serves_refusal table given.stamp given.flow.now given.side.now given.res.now _ _ (sym found ∙ c.in-Err.is) c.refused.ensures
