-- Document 02, CR 11: a table whose arcs have a least flow, 0 where nothing is said, and its limits.
use Rattle.std.specs.Prelude.{ℕ, ◌≤◌, ◌<◌, ◌≡◌, List, map, length}
use Rattle.rows.specs.Row.{Node, at_place}
use Rattle.table.specs.Table.{Table, table_of, table_in}
use Rattle.table.specs.Accepted.{ArcRows}
use Rattle.minimums.specs.declared.Arc.{Arc}
use Rattle.minimums.specs.declared.LentBounded.{LentBounded}

-- A table with a fourth row: the least flow of each arc.
pub record BoundedTable : Type 0 where
  pub table : Table
  pub minimums : List ℕ

-- The bounded table of these numbers and rows.
abbrev pub bounded_of : (n s t : ℕ) (tails heads capacities minimums : List ℕ) → BoundedTable
bounded_of n s t tails heads capacities minimums = record { table = table_of n s t tails heads capacities; minimums = minimums }

-- The bounded table that a lent one holds.
abbrev pub bounded_in : LentBounded → BoundedTable
bounded_in b = record { table = table_in b.table; minimums = b.minimums.now }

-- The least flow of the arc at place k.
abbrev pub minimum : BoundedTable → ℕ → ℕ
minimum b k = at_place b.minimums k

-- Four rows of arcs among n nodes: a table's three within its limits, with a minimum for each arc that is not above its capacity.
pub record BoundedRows (n : ℕ) (tails heads capacities minimums : List ℕ) : Type 0 where
  pub arcs : ArcRows n tails heads capacities
  pub minimums_long : length minimums ≡ length capacities
  pub within : (k : ℕ) → k < length capacities → at_place minimums k ≤ at_place capacities k

-- An accepted bounded table: an accepted table, with a minimum for each arc that is not above its capacity.
pub record AcceptedBounded (b : BoundedTable) : Type 0 where
  pub source : Node b.table.nodes b.table.source
  pub sink : Node b.table.nodes b.table.sink
  pub apart : b.table.source ≡ b.table.sink → ⊥
  pub rows : BoundedRows b.table.nodes b.table.tails b.table.heads b.table.capacities b.minimums

-- The row of tails that arc records give,
abbrev pub tails_of : List Arc → List ℕ
tails_of = map (λ a. a.tail)

-- that of heads,
abbrev pub heads_of : List Arc → List ℕ
heads_of = map (λ a. a.head)

-- that of capacities,
abbrev pub capacities_of : List Arc → List ℕ
capacities_of = map (λ a. a.capacity)

-- and that of minimums.
abbrev pub minimums_of : List Arc → List ℕ
minimums_of = map (λ a. a.minimum)

-- The table of n nodes whose arcs are these records.
abbrev pub record_table : (n s t : ℕ) → List Arc → BoundedTable
record_table n s t arcs = bounded_of n s t (tails_of arcs) (heads_of arcs) (capacities_of arcs) (minimums_of arcs)
