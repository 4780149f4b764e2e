-- `find_live` meets its contract: the lists serve both markings.
use Rattle.std.proofs.Common.{length, arith}
use Rattle.table.specs.Table.{Table, table_in}
use Rattle.arcs.specs.Work.{InWork}
use Rattle.arcs.proofs.Ends.{ends_wide}
use Rattle.smaller.proofs.Living.{live_ahead, live_behind}
use Rattle.smaller.proofs.find_live.Goals as goal

pub fill_work-requires : goal.fill_work-requires
fill_work-requires c =
    let rows = c.requires.accepted.0.rows in
    (ends_wide rows.ends, omega (arith, rows.capacities_long, c.requires.capacities_in_bounds.1))

pub mark-requires : goal.mark-requires
mark-requires c =
    let table : Table = table_in c.args.table.now in
    let in_work : InWork table c.fill_work.new.work = c.fill_work.ensures.listed _ _ _ c.requires.accepted.0.rows.capacities_long in
    record {
      arc_rows = (c.requires.accepted.0.rows, c.requires.capacities_in_bounds.0, c.requires.accepted.0.source);
      by_index = (_, _, in_work);
      n_in_bounds = c.requires.capacities_in_bounds.2;
    }

pub mark_sink_side-requires : goal.mark_sink_side-requires
mark_sink_side-requires c =
    let table : Table = table_in c.args.table.now in
    let in_work : InWork table c.fill_work.new.work = c.fill_work.ensures.listed _ _ _ c.requires.accepted.0.rows.capacities_long in
    record {
      arc_rows = (c.requires.accepted.0.rows, c.requires.capacities_in_bounds.0, c.requires.accepted.0.sink);
      in_work = in_work;
      n_in_bounds = c.requires.capacities_in_bounds.3;
    }

pub returns : goal.returns
returns c =
    let table : Table = table_in c.args.table.now in
    let in_work : InWork table c.fill_work.new.work = c.fill_work.ensures.listed _ _ _ c.requires.accepted.0.rows.capacities_long in
    let given = c.args in record {
      in_work = in_work;
      fact = (
        live_ahead table c.requires.accepted.0 given.none.now (length given.none.now) c.requires.accepted.1 given.ahead.now _ (c.mark.ensures _),
        live_behind table c.requires.accepted.0 given.none.now (length given.none.now) c.requires.accepted.1 given.behind.now _ c.mark_sink_side.ensures,
      );
    }
