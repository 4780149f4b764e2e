-- Document 02, CR 11: what solving a table with minimums answers, and what the lent rows hold afterwards.
use Rattle.std.specs.Prelude.{ℕ, ◌+◌, ◌-◌, ◌≤◌, ◌<◌, ◌≡◌, List, ◌++◌, length, take, drop, replicate, ℤ, Option, Some, None}
use Rattle.rows.specs.Row.{at_place}
use Rattle.arcs.specs.Work.{work_end}
use Rattle.table.specs.Table.{arcs, capacity}
use Rattle.minimums.specs.BoundedTable.{BoundedTable, AcceptedBounded, minimum}
use Rattle.feasible.specs.Flows.{BoundedFlow, NoFlow}
use Rattle.bounded.specs.Bounded.{bounded_side, GreatestBounded}

-- What solving asks: an accepted bounded table, and rows with room for a flow of each arc and a mark of each node.
pub record Solvable (b : BoundedTable) (flow side : List ℕ) : Type 0 where
  pub accepted : AcceptedBounded b
  pub flow_long : arcs b.table ≤ length flow
  pub side_long : b.table.nodes ≤ length side

-- Rows of the call's own, with a place for each arc of the joined network; `none` and `more` are zeros, and `lists` has room for its lists and the table's.
pub record OwnRows (size : ℕ) (from to limits none more lists : List ℕ) : Type 0 where
  pub from_long : length from ≡ size
  pub to_long : length to ≡ size
  pub limits_long : length limits ≡ size
  pub none_empty : none ≡ replicate size 0
  pub more_empty : more ≡ replicate size 0
  pub lists_long : work_end 514 5122 ≤ length lists

-- Two rows above the minimums: what the capacities leave, and a flow that keeps all arcs between their numbers.
pub record Above (b : BoundedTable) (spare more : List ℕ) : Type 0 where
  pub spare_long : length spare ≡ arcs b.table
  pub spare_is : (k : ℕ) → k < arcs b.table → at_place spare k ≡ capacity b.table k - minimum b k
  pub more_long : arcs b.table ≤ length more
  pub keeps : BoundedFlow b (λ k. at_place more k + minimum b k)

-- A flow row and a side row with their answer in the first places, and later places as they were.
pub record Holds (b : BoundedTable) (flow₀ side₀ flow side : List ℕ) : Type 0 where
  pub flow_long : length flow ≡ length flow₀
  pub flow_later : drop (arcs b.table) flow ≡ drop (arcs b.table) flow₀
  pub side_row : side ≡ bounded_side b (take (arcs b.table) flow) ++ drop b.table.nodes side₀

-- What solving leaves, by its answer. None: no flow keeps all arcs between their numbers, and the rows are unchanged. A value: the rows hold a
-- flow of that value, none has a larger one, and the smallest side; later places are unchanged. Which greatest flow it is stays free.
abbrev pub Leaves : BoundedTable → (flow₀ side₀ : List ℕ) → Option ℤ → (flow side : List ℕ) → Type 0
Leaves b flow₀ side₀ None flow side = NoFlow b × ((flow ≡ flow₀) × (side ≡ side₀))
Leaves b flow₀ side₀ (Some v) flow side =
    Holds b flow₀ side₀ flow side × GreatestBounded b (take (arcs b.table) flow) (take b.table.nodes side) v
