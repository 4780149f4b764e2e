-- Document 02, CR 11: the signed value of a flow and a cut's capacity, and a flow of greatest value.
use Rattle.std.specs.Prelude.{ℕ, ◌≤◌, ◌≡◌, Bool, true, List, ℤ, pos, ◌-ℤ◌, nat_abs, ◌≤ℤ◌}
use Rattle.rows.specs.Row.{at_place}
use Rattle.network.specs.Network.{Cut, Reached, inflow, outflow, leaving, entering}
use Rattle.table.specs.Table.{capacity}
use Rattle.minimums.specs.BoundedTable.{BoundedTable, minimum}
use Rattle.reach.specs.Side.{marked, side_from}
use Rattle.feasible.specs.Flows.{bounded_network, BoundedFlow}

-- The value of a flow, signed: what leaves the source less what enters it.
abbrev pub value_of : BoundedTable → (ℕ → ℕ) → ℤ
value_of b flow = pos (outflow (bounded_network b) flow b.table.source) -ℤ pos (inflow (bounded_network b) flow b.table.source)

-- A cut's capacity, signed: the capacities leaving the side less the minimums entering it.
abbrev pub cut_capacity : BoundedTable → (ℕ → Bool) → ℤ
cut_capacity b X = pos (leaving (bounded_network b) X (capacity b.table)) -ℤ pos (entering (bounded_network b) X (minimum b))

-- The side of a flow row: 1 on the nodes reachable from the source over residual arcs and 0 elsewhere.
abbrev pub bounded_side : BoundedTable → List ℕ → List ℕ
bounded_side b flow = side_from (bounded_network b) (at_place flow)

-- Demand 2 as CR 11 reads it: the flow keeps every arc between its two numbers, and none that does has a larger value; the value is the net
-- flow out of the source and the capacity of the side's cut, exact to 4,096,000,000 either way; no cut has a smaller capacity; the side is
-- exactly what the source reaches over residual arcs, and lies inside every cut of that capacity.
pub record GreatestBounded (b : BoundedTable) (flow side : List ℕ) (value : ℤ) : Type 0 where
  pub keeps : BoundedFlow b (at_place flow)
  pub net : value ≡ value_of b (at_place flow)
  pub greatest : (other : ℕ → ℕ) → BoundedFlow b other → value_of b other ≤ℤ value
  pub range : nat_abs value ≤ 4096000000
  pub is_cut : Cut (bounded_network b) (marked side)
  pub cut : value ≡ cut_capacity b (marked side)
  pub least : (X : ℕ → Bool) → Cut (bounded_network b) X → value ≤ℤ cut_capacity b X
  pub reached : Reached (bounded_network b) (at_place flow) (marked side)
  pub smallest : (X : ℕ → Bool) → Cut (bounded_network b) X → cut_capacity b X ≡ value → (i : ℕ) → marked side i ≡ true → X i ≡ true
