-- Which arcs the nodes' lists are made of: a table's, and those of two nodes more.
use Rattle.std.specs.Prelude.{ℕ, ◌≤◌, ◌<◌, ◌≡◌, List, length}
use Rattle.rows.specs.Row.{Node, at_place}

-- The ends of arcs among n nodes: a table's, with room for two nodes more, and for two arcs more at each node and two besides.
pub record WideEnds (n : ℕ) (tails heads : List ℕ) : Type 0 where
  pub few_nodes : n ≤ 514
  pub few_arcs : length tails ≤ 5122
  pub heads_long : length heads ≡ length tails
  pub tail_node : (k : ℕ) → k < length tails → Node n (at_place tails k)
  pub head_node : (k : ℕ) → k < length tails → Node n (at_place heads k)
  pub no_loop : (k : ℕ) → k < length tails → at_place tails k ≡ at_place heads k → ⊥
