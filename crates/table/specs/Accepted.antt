-- Document 01, "The table": what its limits say of a table that no check refuses.
use Rattle.std.specs.Prelude.{ℕ, ◌≤◌, ◌<◌, ◌≡◌, List, length}
use Rattle.rows.specs.Row.{Node, at_place}
use Rattle.table.specs.Table.{Table}

-- The ends of arcs among n nodes: at most 512 nodes and 4,096 arcs, a head for each tail, all of them nodes, and no arc is a loop.
pub record ArcEnds (n : ℕ) (tails heads : List ℕ) : Type 0 where
  pub few_nodes : n ≤ 512
  pub few_arcs : length tails ≤ 4096
  pub heads_long : length heads ≡ length tails
  pub tail_node : (k : ℕ) → k < length tails → Node n (at_place tails k)
  pub head_node : (k : ℕ) → k < length tails → Node n (at_place heads k)
  pub no_loop : (k : ℕ) → k < length tails → at_place tails k ≡ at_place heads k → ⊥

-- Three rows of arcs among n nodes: their ends, and a capacity of at most 1,000,000 for each.
pub record ArcRows (n : ℕ) (tails heads capacities : List ℕ) : Type 0 where
  pub ends : ArcEnds n tails heads
  pub capacities_long : length capacities ≡ length tails
  pub small : (k : ℕ) → k < length capacities → at_place capacities k ≤ 1000000

-- An accepted table: 2 to 512 nodes, source and sink two of them, and its arcs' rows within the limits.
pub record Accepted (t : Table) : Type 0 where
  pub two : 2 ≤ t.nodes
  pub source : Node t.nodes t.source
  pub sink : Node t.nodes t.sink
  pub apart : t.source ≡ t.sink → ⊥
  pub rows : ArcRows t.nodes t.tails t.heads t.capacities
