-- `open_table` meets its contract: the first m places of the rows are lent.
use Rattle.std.proofs.Common.{◌≤◌, length, sym, arith, length-take-le}
use Rattle.table.specs.Table.{table_in}
use Rattle.rows.proofs.Rows.{zeros_taken}
use Rattle.opening.proofs.Reopening.{opens_part, went_opened}
use Rattle.opening.proofs.open_table.Goals as goal

pub slice_bounds-new-end : goal.slice_bounds-new-end
slice_bounds-new-end c =
    let few : length c.args.table.now.capacities.now ≤ 4096 = omega (arith, c.requires.opens.accepted.rows.ends.few_arcs, c.requires.opens.accepted.rows.capacities_long) in
    few

pub slice_bounds-open_rows-end : goal.slice_bounds-open_rows-end
slice_bounds-open_rows-end c =
    let few : length c.args.table.now.capacities.now ≤ 4096 = omega (arith, c.requires.opens.accepted.rows.ends.few_arcs, c.requires.opens.accepted.rows.capacities_long) in
    sym (length-take-le _ _ few)

pub slice_bounds-minimums-end : goal.slice_bounds-minimums-end
slice_bounds-minimums-end c =
    let few : length c.args.table.now.capacities.now ≤ 4096 = omega (arith, c.requires.opens.accepted.rows.ends.few_arcs, c.requires.opens.accepted.rows.capacities_long) in
    few

pub slice_bounds-bounded-end : goal.slice_bounds-bounded-end
slice_bounds-bounded-end c =
    let few : length c.args.table.now.capacities.now ≤ 4096 = omega (arith, c.requires.opens.accepted.rows.ends.few_arcs, c.requires.opens.accepted.rows.capacities_long) in
    sym (length-take-le _ _ few)

pub slice_bounds-open_rows-end-2 : goal.slice_bounds-open_rows-end-2
slice_bounds-open_rows-end-2 c = c.requires.opens.for_flow

pub slice_bounds-open_rows-end-3 : goal.slice_bounds-open_rows-end-3
slice_bounds-open_rows-end-3 c = sym (length-take-le _ _ c.requires.opens.for_flow)

pub open_rows-requires : goal.open_rows-requires
open_rows-requires c =
    let few : length c.args.table.now.capacities.now ≤ 4096 = omega (arith, c.requires.opens.accepted.rows.ends.few_arcs, c.requires.opens.accepted.rows.capacities_long) in
    record {
      opens = opens_part c.requires.opens;
      in_work = c.requires.in_work;
      len = (length-take-le _ _ few, length-take-le _ _ c.requires.opens.for_flow, zeros_taken _ 4096 few);
    }

pub returns : goal.returns
returns c =
    let given = c.args in
    went_opened (table_in given.table.now) given.place given.capacity c.requires.opens given.stamp given.flow.now given.side.now given.work.now c.open_rows.result _ _ _ c.requires.opens.for_flow c.open_rows.ensures
