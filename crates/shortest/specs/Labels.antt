-- Labels, which need not be the distances, and the chain by them: for the contracts of the functions that walk, and what is proved of them.
use Rattle.std.specs.Prelude.{ℕ, zero, suc, ◌+◌, ◌≤◌, ◌<◌, ◌≡◌, Bool, true, false, ◌&&◌, List, ltb, length}
use Rattle.rows.specs.Row.{at_node, Node}
use Rattle.shortest.specs.Ways.{Ways, Leads, other_end}
use Rattle.shortest.specs.Distance.{leads_to, next}

-- Labels that are nowhere above the distance: t alone has 0, and an open arc leads down by at most one.
pub record Labels (w : Ways) (n t : ℕ) (row : List ℕ) : Type 0 where
  pub long : length row ≡ n
  pub at_most : (i : ℕ) → Node n i → at_node row i ≤ n
  pub at_sink : at_node row t ≡ 0
  pub only_sink : (i : ℕ) → Node n i → at_node row i ≡ 0 → i ≡ t
  pub valid : (k i j : ℕ) → Leads w k i j → at_node row i ≤ at_node row j + 1

-- What the distances of the nodes 1 to n to node t are: labels, n where t is not reached, and else with an open arc one nearer.
pub record Distances (w : Ways) (n t : ℕ) (row : List ℕ) : Type 0 where
  pub labels : Labels w n t row
  pub descends : (i e : ℕ) → Node n i → at_node row i ≡ suc e → suc e < n → (k : ℕ) × (j : ℕ) × Leads w k i j × (at_node row j ≡ e)

-- Whether the chain from node i, at label d, gets to label 0: at each node some place leads one nearer.
unfoldable pub arrives : Ways → List ℕ → ℕ → ℕ → Bool
unfolding next
arrives w row zero i = true
arrives w row (suc d) i = ltb (next w row d i) w.places && arrives w row d (other_end w i (next w row d i))

-- For each node a place below which none leads one nearer, or none: a number past the places.
abbrev pub NoneLower : Ways → (n : ℕ) (row lowest : List ℕ) → Type 0
NoneLower w n row lowest = (i d p : ℕ) → Node n i → at_node row i ≡ suc d → at_node lowest i < w.places → p < at_node lowest i → leads_to w row d i p ≡ false
