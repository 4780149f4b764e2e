-- The rows of the joined network: two nodes and 2n + 2 arcs more. For the contracts of the functions that write them.
use Rattle.std.specs.Prelude.{ℕ, ◌+◌, ◌-◌, ◌≤◌, ◌<◌, ◌≡◌, cond, List, eqb, ltb, length}
use Rattle.rows.specs.Row.{at_place, by_place}
use Rattle.table.specs.Table.{Table, table_of}
use Rattle.table.specs.Accepted.{ArcEnds}
use Rattle.minimums.specs.BoundedTable.{BoundedTable}
use Rattle.start.specs.Sums.{sum_at}

-- How many arcs the joined network has: m, one from the new source to each node, one from each node to the new sink, and two more.
abbrev pub joined_arcs : (n m : ℕ) → ℕ
joined_arcs n m = m + (n + (n + 2))

-- What stands at place k: one of m arcs, one of n arcs from the new source, one of n arcs to the new sink, or one of two between source and sink.
unfoldable pub in_block : (n m k old ins outs forth back : ℕ) → ℕ
in_block n m k old ins outs forth back =
    cond (ltb k m) old (cond (ltb k (m + n)) ins (cond (ltb k (m + (n + n))) outs (cond (eqb k (m + (n + n))) forth back)))

-- The tails of the joined network,
abbrev pub joined_tail : (n s t : ℕ) (tails : List ℕ) (m : ℕ) → ℕ → ℕ
joined_tail n s t tails m k = in_block n m k (at_place tails k) (n + 1) (k - (m + n) + 1) s t

-- and its heads.
abbrev pub joined_head : (n s t : ℕ) (heads : List ℕ) (m : ℕ) → ℕ → ℕ
joined_head n s t heads m k = in_block n m k (at_place heads k) (k - m + 1) (n + 2) t s

-- Its capacities: what is left above the minimums, the minimums into each node and out of it, and room for everything.
abbrev pub joined_capacity : (n : ℕ) (tails heads capacities minimums : List ℕ) (m : ℕ) → ℕ → ℕ
joined_capacity n tails heads capacities minimums m k =
    in_block n m k (at_place capacities k - at_place minimums k) (sum_at heads minimums (k - m + 1) m) (sum_at tails minimums (k - (m + n) + 1) m) 4096000000 4096000000

-- A row with a number of at most 1,000,000 for each of at most 4,096 ends.
pub record Small (ends row : List ℕ) : Type 0 where
  pub few : length ends ≤ 4096
  pub long : length ends ≤ length row
  pub each : (k : ℕ) → k < length ends → at_place row k ≤ 1000000

-- Such a capacity where the minimums into each node and out of it stand in two rows.
abbrev pub capacity_at : (capacities minimums entering leaving : List ℕ) → ℕ → ℕ
capacity_at capacities minimums entering leaving k =
    in_block (length entering) (length minimums) k (at_place capacities k - at_place minimums k) (at_place entering (k - length minimums))
    (at_place leaving (k - (length minimums + length entering))) 4096000000 4096000000

-- Rows that such capacities are read off: capacities, minimums, and two with the minimums at each node, which fit 32 bits.
pub record Numbers (capacities minimums entering leaving : List ℕ) : Type 0 where
  pub nodes : length entering ≤ 512
  pub few : length minimums ≤ 4096
  pub capacities_long : length minimums ≤ length capacities
  pub leaving_long : length leaving ≡ length entering
  pub entering_small : (j : ℕ) → j < length entering → at_place entering j ≤ 4096000000
  pub leaving_small : (j : ℕ) → j < length entering → at_place leaving j ≤ 4096000000

-- Arcs with a capacity and a minimum each, small enough to be summed at their tails and heads.
pub record Summable (n : ℕ) (tails heads capacities minimums : List ℕ) : Type 0 where
  pub ends : ArcEnds n tails heads
  pub minimums_long : length minimums ≡ length tails
  pub capacities_long : length minimums ≤ length capacities
  pub at_tails : Small tails minimums
  pub at_heads : Small heads minimums

-- The joined network of a bounded table, as a table: two nodes more, its source and its sink.
abbrev pub joined_table : BoundedTable → Table
joined_table b =
    let n = b.table.nodes in
    let m = length b.table.capacities in
    table_of (n + 2) (n + 1) (n + 2)
    (by_place (joined_tail n b.table.source b.table.sink b.table.tails m) (joined_arcs n m))
    (by_place (joined_head n b.table.source b.table.sink b.table.heads m) (joined_arcs n m))
    (by_place (joined_capacity n b.table.tails b.table.heads b.table.capacities b.minimums m) (joined_arcs n m))

-- Three rows of the joined network's arcs.
pub record JoinedRows (b : BoundedTable) (tails heads capacities : List ℕ) : Type 0 where
  pub tails_hold : tails ≡ (joined_table b).tails
  pub heads_hold : heads ≡ (joined_table b).heads
  pub capacities_hold : capacities ≡ (joined_table b).capacities
