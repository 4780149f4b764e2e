-- `solve_small` meets its contract: the first places of the three rows are lent to the solver.
use Rattle.std.proofs.Common.{◌≡◌, length, take, sym, arith, length-take-le}
use Rattle.table.specs.Table.{Table, table_of}
use Rattle.smaller.proofs.Living.{solved_found}
use Rattle.smaller.proofs.solve_small.Goals as goal

pub slice_bounds-small-end : goal.slice_bounds-small-end
slice_bounds-small-end c = sym (length-take-le _ _ c.requires.arcs_in_bounds.0)

pub slice_bounds-small-end-2 : goal.slice_bounds-small-end-2
slice_bounds-small-end-2 c = sym (length-take-le _ _ c.requires.arcs_in_bounds.1)

pub slice_bounds-small-end-3 : goal.slice_bounds-small-end-3
slice_bounds-small-end-3 c = sym (length-take-le _ _ c.requires.arcs_in_bounds.2)

pub solve_table-requires : goal.solve_table-requires
solve_table-requires c =
    let long : length (take c.args.arcs c.args.small_capacities.now) ≡ c.args.arcs = length-take-le c.args.arcs c.args.small_capacities.now c.requires.arcs_in_bounds.2 in
    record {
      accepted = c.requires.accepted;
      given_room = (omega (arith, long, c.requires.arcs_in_bounds.3), c.requires.arcs_in_bounds.4, omega (arith, long, c.requires.arcs_in_bounds.5));
    }

pub returns : goal.returns
returns c =
    let table : Table = let args = c.args in table_of args.nodes args.source args.sink (take args.arcs args.small_tails.now) (take args.arcs args.small_heads.now) (take args.arcs args.small_capacities.now) in
    let long : length (take c.args.arcs c.args.small_capacities.now) ≡ c.args.arcs = length-take-le c.args.arcs c.args.small_capacities.now c.requires.arcs_in_bounds.2 in
    let given = c.args in
    solved_found table c.requires.accepted given.stamp given.arcs given.flows.now given.marks.now given.room.now c.solve_table.result _ _ _ long c.solve_table.ensures
