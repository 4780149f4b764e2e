-- Sums by node: for the contracts of the functions that add up in one pass over the arcs.
use Rattle.std.specs.Prelude.{ℕ, ◌*◌, ◌≤◌, ◌≡◌, List, length}
use Rattle.rows.specs.Row.{Node, at_node}
use Rattle.start.specs.Sums.{sum_at}

-- A row by node has the flows of the first k places added up, each at its end, tail or head as the row says.
pub record Tallied (ends flow : List ℕ) (k : ℕ) (sums : List ℕ) : Type 0 where
  pub exact : (i : ℕ) → Node (length sums) i → at_node sums i ≡ sum_at ends flow i k
  pub small : (i : ℕ) → Node (length sums) i → at_node sums i ≤ 4294967296 * k
