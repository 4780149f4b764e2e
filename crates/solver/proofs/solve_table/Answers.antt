-- `solve_table` meets its contract: the first m places of the flow row are lent to `solve_rows`.
use Rattle.solver.proofs.Solved.{solved_longer}
use Rattle.table.specs.Table.{table_of, table_in}
use lib.ListN.{length, take}
use lib.Seq.{length-take-le}
use mathlib.Core.Path.{◌≡◌, sym}
use Rattle.solver.proofs.solve_table.Goals as goal

pub slice_bounds-solve_rows-end-2 : goal.slice_bounds-solve_rows-end-2
slice_bounds-solve_rows-end-2 c =
    let part_long : length (take (length c.args.table.now.capacities.now) c.args.flow.now) ≡ length c.args.table.now.capacities.now = length-take-le _ _ c.requires.given_room.0 in
    sym part_long

pub solve_rows-requires : goal.solve_rows-requires
solve_rows-requires c =
    let part_long : length (take (length c.args.table.now.capacities.now) c.args.flow.now) ≡ length c.args.table.now.capacities.now = length-take-le _ _ c.requires.given_room.0 in
    record {
      accepted = c.requires.accepted;
      flow_len = (part_long, c.requires.given_room.1, c.requires.given_room.2);
    }

pub returns : goal.returns
returns c =
    let given = c.args in
    solved_longer (table_in given.table.now) given.stamp given.flow.now given.side.now given.work.now
    c.solve_rows.result _ _ _ c.requires.given_room.0 c.solve_rows.ensures
