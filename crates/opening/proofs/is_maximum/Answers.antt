-- `is_maximum` meets its contract: a flow, then the sink's mark.
use Rattle.table.specs.Table.{table_of, table_in}
use Rattle.opening.proofs.Leaves.{maximum_not, maximum_decides}
use Rattle.opening.proofs.is_maximum.Goals as goal

pub is_flow-requires : goal.is_flow-requires
is_flow-requires c = record {
  arc_rows = c.requires.accepted.rows;
  capacities_in_bounds = c.requires.capacities_in_bounds;
}

pub returns-then-not-is_flow : goal.returns-then-not-is_flow
returns-then-not-is_flow c =
    let given = c.args in
    maximum_not (table_in given.table.now) given.flow.now c.is_flow.ensures c.if-not-is_flow.true

pub is_sink_reached-requires : goal.is_sink_reached-requires
is_sink_reached-requires c = record {
  accepted = c.requires.accepted;
  in_work = c.requires.in_work;
  capacities_in_bounds = (c.requires.capacities_in_bounds, c.requires.accepted.rows.ends.few_nodes);
}

pub returns : goal.returns
returns c =
    let given = c.args in
    maximum_decides (table_in given.table.now) given.flow.now c.is_flow.ensures c.if-not-is_flow.false c.is_sink_reached.ensures
