-- `is_sink_reached` meets its contract: the side is marked, and the sink's mark read.
use Rattle.std.proofs.Common.{drop}
use Rattle.table.specs.Table.{table_in}
use Rattle.opening.proofs.Leaves.{sink_mark}
use Rattle.opening.proofs.is_sink_reached.Goals as goal

pub mark-requires : goal.mark-requires
mark-requires c = record {
  arc_rows = (c.requires.accepted.rows, c.requires.capacities_in_bounds.0, c.requires.accepted.source);
  by_index = (_, _, c.requires.in_work);
  n_in_bounds = c.requires.capacities_in_bounds.1;
}

pub returns : goal.returns
returns c =
    let given = c.args in
    sink_mark (table_in given.table.now) c.requires.accepted given.flow.now (drop given.table.now.nodes given.marks.now) (c.mark.ensures _)
