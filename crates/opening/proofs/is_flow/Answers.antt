-- `is_flow` meets its contract: the capacities, then the nodes, with rows of zeros for the sums.
use Rattle.std.proofs.Common.{sym}
use Rattle.table.specs.Table.{table_of, table_in}
use Rattle.opening.proofs.Leaves.{zeros_long, conserved_asks, flow_above, flow_decides}
use Rattle.opening.proofs.is_flow.Goals as goal

pub returns-then-not-is_within : goal.returns-then-not-is_within
returns-then-not-is_within c =
    let given = c.args in
    flow_above (table_in given.table.now) given.flow.now c.is_within.ensures c.if-not-is_within.true

pub slice_bounds-is_conserved-end : goal.slice_bounds-is_conserved-end
slice_bounds-is_conserved-end c = sym (zeros_long _ c.requires.arc_rows.ends.few_nodes)

pub slice_bounds-is_conserved-end-2 : goal.slice_bounds-is_conserved-end-2
slice_bounds-is_conserved-end-2 c = sym (zeros_long _ c.requires.arc_rows.ends.few_nodes)

pub is_conserved-requires : goal.is_conserved-requires
is_conserved-requires c =
    let the_facts = conserved_asks c.requires.arc_rows c.requires.capacities_in_bounds in record {
      tails_in_bounds = the_facts.0;
      by_index = the_facts.1.0;
      by_index_2 = the_facts.1.1.0;
      tallied = the_facts.1.1.1.0;
      leaving_len = the_facts.1.1.1.1;
    }

pub returns : goal.returns
returns c =
    let given = c.args in
    flow_decides (table_in given.table.now) given.flow.now c.is_within.ensures c.if-not-is_within.false c.requires.arc_rows (zeros_long _ c.requires.arc_rows.ends.few_nodes) c.is_conserved.ensures
