-- `reduce_cut` meets its contract: the first places of the rows are lent to `reduce_marked`.
use Rattle.std.proofs.Common.{sym, length-take-le}
use Rattle.table.specs.Table.{table_of, table_in}
use Rattle.keeping.specs.SmallRows.{small_rows}
use Rattle.smaller.proofs.Reducing.{reduced_longer}
use Rattle.smaller.proofs.reduce_cut.Goals as goal

pub slice_bounds-reduce_marked-end : goal.slice_bounds-reduce_marked-end
slice_bounds-reduce_marked-end c = sym (length-take-le _ _ c.requires.n_in_bounds.0)

pub slice_bounds-reduce_marked-end-2 : goal.slice_bounds-reduce_marked-end-2
slice_bounds-reduce_marked-end-2 c = sym (length-take-le _ _ c.requires.n_in_bounds.1)

pub slice_bounds-reduce_marked-end-4 : goal.slice_bounds-reduce_marked-end-4
slice_bounds-reduce_marked-end-4 c = sym (length-take-le _ _ c.requires.n_in_bounds.2)

pub slice_bounds-reduce_marked-end-6 : goal.slice_bounds-reduce_marked-end-6
slice_bounds-reduce_marked-end-6 c = sym (length-take-le _ _ c.requires.n_in_bounds.6)

pub reduce_marked-requires : goal.reduce_marked-requires
reduce_marked-requires c = record {
  fact = c.requires.fact;
  ahead_len = (length-take-le _ _ c.requires.n_in_bounds.0, length-take-le _ _ c.requires.n_in_bounds.1, length-take-le _ _ c.requires.n_in_bounds.2, c.requires.n_in_bounds.3, c.requires.n_in_bounds.4, c.requires.n_in_bounds.5, length-take-le _ _ c.requires.n_in_bounds.6);
  given_room_to_reduce = c.requires.given_room_to_reduce;
}

pub returns : goal.returns
returns c =
    let given = c.args in
    reduced_longer (table_in given.table.now) given.stamp given.flow.now given.side.now given.work.now
    (small_rows given.small_tails.now given.small_heads.now given.small_capacities.now given.nodes_from.now given.arcs_from.now) c.reduce_marked.result _ _ _ _ c.requires.n_in_bounds.6 c.reduce_marked.ensures
