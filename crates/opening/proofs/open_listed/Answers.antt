-- `open_listed` meets its contract: the lists, the verdict on the change, then its refusal or the opened table.
use Rattle.table.specs.Table.{Table, table_in}
use Rattle.arcs.proofs.Ends.{ends_wide}
use Rattle.opening.proofs.Reopening.{refused_change, fine_change, change_asks}
use Rattle.opening.proofs.open_listed.Goals as goal

pub fill_work-requires : goal.fill_work-requires
fill_work-requires c = (ends_wide c.requires.accepted.rows.ends, c.requires.tails_in_bounds)

pub change_verdict-requires : goal.change_verdict-requires
change_verdict-requires c = record {
  accepted = c.requires.accepted;
  in_work = c.fill_work.ensures.listed _ _ _ c.requires.accepted.rows.capacities_long;
  capacities_in_bounds = c.requires.given_room.0;
}

pub open_table-requires : goal.open_table-requires
open_table-requires c =
    let table : Table = table_in c.args.table.now in
    let given = c.args in record {
      opens = change_asks table given.stamp given.place given.capacity given.flow.now given.side.now given.work.now _ c.change_verdict.ensures c.in-Ok.is c.requires.accepted c.requires.given_room;
      in_work = c.fill_work.ensures.listed _ _ _ c.requires.accepted.rows.capacities_long;
    }

pub returns-in-Err : goal.returns-in-Err
returns-in-Err c =
    let table : Table = table_in c.args.table.now in
    let given = c.args in
    refused_change table given.stamp given.place given.capacity given.flow.now given.side.now given.work.now _ c.change_verdict.ensures _ _ c.in-Err.is c.into.result c.into.ensures

pub returns-in-Ok : goal.returns-in-Ok
returns-in-Ok c =
    let table : Table = table_in c.args.table.now in
    let given = c.args in
    fine_change table given.stamp given.place given.capacity given.flow.now given.side.now given.work.now _ c.change_verdict.ensures c.in-Ok.is _ c.open_table.ensures
