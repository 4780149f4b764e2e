-- The five rows that hold a smaller table and where it came from.
use Rattle.std.specs.Prelude.{ℕ, List}

-- The rows of a smaller table's arcs, and those that say where its nodes and arcs came from.
pub record SmallRows : Type 0 where
  pub tails : List ℕ
  pub heads : List ℕ
  pub capacities : List ℕ
  pub nodes_from : List ℕ
  pub arcs_from : List ℕ

-- The same, from its parts.
abbrev pub small_rows : (tails heads capacities nodes_from arcs_from : List ℕ) → SmallRows
small_rows tails heads capacities nodes_from arcs_from =
    record { tails = tails; heads = heads; capacities = capacities; nodes_from = nodes_from; arcs_from = arcs_from }
