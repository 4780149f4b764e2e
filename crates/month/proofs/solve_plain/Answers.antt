-- `solve_plain` meets its contract: the verdict, then its refusal or the accepted table.
use mathlib.Core.Path.{◌≡◌, sym, ap, ◌∙◌}
use lib.ListN.{length}
use Rattle.minimums.specs.BoundedTable.{BoundedTable, bounded_of, bounded_in}
use Rattle.minimums.specs.Checks.{plain_check}
use Rattle.verdicts.specs.Plain.{plain_verdict}
use Rattle.days.proofs.Solvings.{plain_accepted, plain_roomy, refused_plain, fine_plain}
use Rattle.month.proofs.solve_plain.Goals as goal

pub solve_table-requires : goal.solve_table-requires
solve_table-requires c =
    let table : BoundedTable = bounded_in c.args.bounded.now in
    let found : c.plain_check.result ≡ plain_verdict table (length c.args.flow.now) (length c.args.side.now) (length c.args.work.now) = c.plain_check.ensures ∙ ap (plain_check table) c.has_room-room.ensures in
    let given = c.args in
    let is = sym found ∙ c.in-Ok.is in
    let room = plain_roomy table given.stamp given.flow.now given.side.now given.work.now is in record {
      accepted = plain_accepted table given.stamp given.flow.now given.side.now given.work.now is;
      given_room = (room.for_flow, room.for_side, room.for_work);
    }

pub returns-in-Err : goal.returns-in-Err
returns-in-Err c =
    let table : BoundedTable = bounded_in c.args.bounded.now in
    let found : c.plain_check.result ≡ plain_verdict table (length c.args.flow.now) (length c.args.side.now) (length c.args.work.now) = c.plain_check.ensures ∙ ap (plain_check table) c.has_room-room.ensures in
    let given = c.args in
    refused_plain table given.stamp given.flow.now given.side.now given.work.now _ _ (sym found ∙ c.in-Err.is) c.into.ensures

pub returns-in-Ok : goal.returns-in-Ok
returns-in-Ok c =
    let table : BoundedTable = bounded_in c.args.bounded.now in
    let found : c.plain_check.result ≡ plain_verdict table (length c.args.flow.now) (length c.args.side.now) (length c.args.work.now) = c.plain_check.ensures ∙ ap (plain_check table) c.has_room-room.ensures in
    let given = c.args in
    fine_plain table given.stamp given.flow.now given.side.now given.work.now (sym found ∙ c.in-Ok.is) c.solve_table.ensures
