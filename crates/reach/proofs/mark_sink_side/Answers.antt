-- `mark_sink_side` meets its contract: it is the side of the turned table, whose lists are the table's.
use Rattle.arcs.proofs.Work.{in_work_turned}
use Rattle.reach.proofs.Turning.{rows_turned}
use Rattle.reach.proofs.mark_sink_side.Goals as goal

pub mark-requires : goal.mark-requires
mark-requires c =
    let table = c.args.table.now in
    record {
      arc_rows = (rows_turned c.requires.arc_rows.0, c.requires.arc_rows.1, c.requires.arc_rows.2);
      by_index = (table.sink, table.source, in_work_turned c.requires.in_work table.sink table.source);
      n_in_bounds = c.requires.n_in_bounds;
    }
