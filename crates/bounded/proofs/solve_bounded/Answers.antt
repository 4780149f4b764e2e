-- `solve_bounded` meets its contract: six arrays of its own are lent on.
use native.Mathlib.Omega.{arith}
use Rattle.bounded.proofs.Rows.{own_rows}
use Rattle.bounded.proofs.solve_bounded.Goals as goal

pub solve_in-requires-clause-own_rows : goal.solve_in-requires-clause-own_rows
solve_in-requires-clause-own_rows c =
    let rows = c.requires.accepted.rows.arcs in own_rows _ (omega (arith, rows.ends.few_arcs, rows.ends.few_nodes, rows.capacities_long))
