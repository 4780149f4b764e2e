-- How the code measures distances: a list of nodes still to be visited, and each node's arcs looked at once. For the contracts of the functions that measure.
use Rattle.std.specs.Prelude.{ℕ, zero, suc, ◌+◌, ◌-◌, ◌≤◌, ◌<◌, ◌≡◌, ◌⊎◌, Bool, cond, List, [], ◌∷◌, eqb, length, set}
use Rattle.rows.specs.Row.{at_place, at_node}
use Rattle.shortest.specs.Ways.{Ways, other_end}

-- The places of the arcs that touch node i, rising.
pub record ListOf (w : Ways) (i : ℕ) (list : List ℕ) : Type 0 where
  pub each : (q : ℕ) → q < length list → at_place list q < w.places
  pub touching : (q : ℕ) → q < length list → (w.tail_at (at_place list q) ≡ i) ⊎ (w.head_at (at_place list q) ≡ i)
  pub all : (k : ℕ) → k < w.places → (w.tail_at k ≡ i) ⊎ (w.head_at k ≡ i) → (q : ℕ) × (q < length list) × (at_place list q ≡ k)
  pub rises : (p q : ℕ) → p < q → q < length list → at_place list p < at_place list q

-- Whether the arc at place k, which touches node j, may be walked to j from its other end.
abbrev pub may_into : Ways → ℕ → ℕ → Bool
may_into w j k = cond (eqb (w.tail_at k) j) (w.back k) (w.fore k)

-- How many numbers of a row are n: as many nodes have no distance yet.
unfoldable pub vacant : ℕ → List ℕ → ℕ
vacant n [] = 0
vacant n (x ∷ xs) = cond (eqb x n) 1 0 + vacant n xs

-- The distances, and the nodes noted to be visited: the first `count` of a row.
pub record Front : Type 0 where
  pub dist : List ℕ
  pub todo : List ℕ
  pub count : ℕ

-- The same, from its parts.
abbrev pub front : (dist todo : List ℕ) → (count : ℕ) → Front
front dist todo count = record { dist = dist; todo = todo; count = count }

-- Node i has the distance d, and is noted.
abbrev pub given : ℕ → ℕ → Front → Front
given d i f = front (set f.dist (i - 1) d) (set f.todo f.count i) (f.count + 1)

-- Node i gets the distance d and is noted where the way from it is open and it has no distance yet.
unfoldable pub give_of : (n d : ℕ) → Bool → ℕ → Front → Front
give_of n d may i f = cond may (cond (eqb (at_node f.dist i) n) (given d i f) f) f

-- After the first p places of node j's list were looked at: the other end of an arc that may be walked to j gets the distance d.
unfoldable pub look_to : Ways → (n d j : ℕ) → List ℕ → ℕ → Front → Front
unfolding give_of
look_to w n d j list zero f = f
look_to w n d j list (suc p) f = give_of n d (may_into w j (at_place list p)) (other_end w j (at_place list p)) (look_to w n d j list p f)

-- Nodes can be noted at distance d: each that has no distance yet has a place behind those noted, and these are d at least.
pub record Open (n d : ℕ) (f : Front) : Type 0 where
  pub enough : d ≤ f.count
  pub left : vacant n f.dist + f.count ≤ n
  pub places : n ≤ length f.todo
