-- `open` meets its contract: the old table's own refusals, then what becomes of an accepted one. The rest of the promise follows from the equation.
use Rattle.std.proofs.Common.{◌≡◌, length, ap, ◌∙◌}
use Rattle.minimums.specs.BoundedTable.{BoundedTable, bounded_of, bounded_in}
use Rattle.minimums.specs.Checks.{plain_check}
use Rattle.solver.specs.Solving.{left, has_room}
use Rattle.opening.specs.Opening.{opening}
use Rattle.opening.proofs.Reopening.{refused_own, own_accepts, fine_own, opening_reopens, opening_notmax}
use Rattle.opening.proofs.open.Goals as goal

pub open_accepted-requires : goal.open_accepted-requires
open_accepted-requires c =
    let table : BoundedTable = bounded_in c.args.bounded.now in
    let found : c.plain_check.result ≡ plain_check table (has_room c.args.bounded.now.table.nodes (length c.args.bounded.now.table.capacities.now) (length c.args.flow.now) (length c.args.side.now) (length c.args.work.now)) = c.plain_check.ensures ∙ ap (plain_check table) c.has_room-room.ensures in
    let given = c.args in
    let (ok, roomy) = own_accepts table given.stamp given.place given.capacity given.flow.now given.side.now given.work.now _ found c.in-Ok.is in record {
      accepted = ok;
      given_room = (roomy.for_flow, roomy.for_side, roomy.for_work);
    }

pub returns-in-Err : goal.returns-in-Err
returns-in-Err c =
    let table : BoundedTable = bounded_in c.args.bounded.now in
    let found : c.plain_check.result ≡ plain_check table (has_room c.args.bounded.now.table.nodes (length c.args.bounded.now.table.capacities.now) (length c.args.flow.now) (length c.args.side.now) (length c.args.work.now)) =
    c.plain_check.ensures ∙ ap (plain_check table) c.has_room-room.ensures in
    let given = c.args in
    let exact : left c.into.result given.flow.now given.side.now given.work.now ≡ opening table given.stamp given.place given.capacity given.flow.now given.side.now given.work.now =
    refused_own table given.stamp given.place given.capacity given.flow.now given.side.now given.work.now _ found _ _ c.in-Err.is c.into.result c.into.ensures in record {
      exact = exact;
      best = opening_reopens table given.stamp given.place given.capacity given.flow.now given.side.now given.work.now _ exact;
      notmax = opening_notmax table given.stamp given.place given.capacity given.flow.now given.side.now given.work.now _ exact;
    }

pub returns-in-Ok : goal.returns-in-Ok
returns-in-Ok c =
    let table : BoundedTable = bounded_in c.args.bounded.now in
    let found : c.plain_check.result ≡ plain_check table (has_room c.args.bounded.now.table.nodes (length c.args.bounded.now.table.capacities.now) (length c.args.flow.now) (length c.args.side.now) (length c.args.work.now)) =
    c.plain_check.ensures ∙ ap (plain_check table) c.has_room-room.ensures in
    let given = c.args in
    let exact : left c.open_accepted.result c.open_accepted.new.flow c.open_accepted.new.side c.open_accepted.new.work ≡ opening table given.stamp given.place given.capacity given.flow.now given.side.now given.work.now =
    fine_own table given.stamp given.place given.capacity given.flow.now given.side.now given.work.now _ found c.in-Ok.is _ c.open_accepted.ensures in record {
      exact = exact;
      best = opening_reopens table given.stamp given.place given.capacity given.flow.now given.side.now given.work.now _ exact;
      notmax = opening_notmax table given.stamp given.place given.capacity given.flow.now given.side.now given.work.now _ exact;
    }
