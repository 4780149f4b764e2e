-- `read_at` meets its contract: each row is read at the place, and the marks at the arc's two ends.
use mathlib.Core.Path.{ap}
use native.Mathlib.Omega.{arith}
use Prim.Native.Nat.{ℕ}
use Rattle.rows.specs.Row.{at_place}
use Rattle.planner.specs.Reading.{reading_with}
use Rattle.planner.proofs.read_at.Goals as goal

pub crossing-requires : goal.crossing-requires
crossing-requires c =
    let rows = c.requires.accepted.rows in
    let tail = rows.ends.tail_node c.args.place (omega (arith, rows.capacities_long, c.requires.capacities_in_bounds.2)) in
    let head = rows.ends.head_node c.args.place (omega (arith, rows.capacities_long, c.requires.capacities_in_bounds.2)) in
    ((tail.0, omega (arith, c.requires.capacities_in_bounds.1)), (head.0, omega (arith, c.requires.capacities_in_bounds.1)))

pub returns : goal.returns
returns c =
    let given = c.args in
    ap (λ (x : ℕ). reading_with 0 0 (at_place given.flow.now given.place) (at_place given.table.now.capacities.now given.place) x) c.crossing.ensures
