-- What the code asks of its rows, and how it hands over what a walk found, as a part of the row of places walked: for the contracts of the functions that walk and list.
use Rattle.std.specs.Prelude.{ℕ, ◌^◌, ◌≤◌, ◌<◌, ◌≡◌, Bool, false, Option, None, Some, List, ◌++◌, length, drop}
use Rattle.rows.specs.Row.{at_place, at_node, part}
use Rattle.table.specs.Accepted.{ArcEnds}
use Rattle.arcs.specs.Residual.{Places}
use Rattle.pieces.specs.Chains.{leads_on, Found, Piece}
use Rattle.walks.specs.declared.Kind.{Kind}
use Rattle.walks.specs.declared.Kind.TheVariants.{Neither, Chain, Ring}

-- No number before k passes: a search may begin at k.
abbrev pub NoneBefore : (ℕ → Bool) → ℕ → Type 0
NoneBefore p k = (j : ℕ) → j < k → p j ≡ false

-- A place below m that was found, or none: x is the place that was, and m where there is none.
abbrev pub Placed : (m x : ℕ) → Option ℕ → Type 0
Placed m x None = x ≡ m
Placed m x (Some k) = (k ≡ x) × (k < m)

-- The number of what a walk is.
abbrev pub kind_number : Kind → ℕ
kind_number Neither = 0
kind_number Chain = 1
kind_number Ring = 2

-- For each node a place before which none that leaves it has flow left. Flow left only falls, so these places only rise.
abbrev pub Ahead : (tails left first : List ℕ) → Type 0
Ahead tails left first = (i : ℕ) → (at_node first i ≤ length tails) × NoneBefore (leads_on tails left i) (at_node first i)

-- The rows of a walk among n nodes: the arcs' ends, their flow left, and for each node where its search begins.
pub record Ready (n : ℕ) (tails heads left first : List ℕ) : Type 0 where
  pub ends : ArcEnds n tails heads
  pub left_long : length left ≡ length tails
  pub first_long : n ≤ length first
  pub ahead : Ahead tails left first

-- For each node that the walk left, how many places were walked before. Of other nodes the row may hold anything.
abbrev pub Noted : (tails walked turns : List ℕ) → Type 0
Noted tails walked turns = (q : ℕ) → q < length walked → at_node turns (at_place tails (at_place walked q)) ≡ q

-- What was found, as a kind and a part of the row of places walked.
pub record Went (m : ℕ) (f : Found) (walked : List ℕ) (kind from end : ℕ) : Type 0 where
  pub kind_is : kind ≡ f.kind
  pub places_are : part from end walked ≡ f.places
  pub in_order : from ≤ end
  pub fits : end ≤ length walked
  pub inside : Places m (part from end walked)

-- A piece, as its kind, its amount and a part of the row of places walked.
pub record Took (p : Piece) (walked : List ℕ) (kind amount from end : ℕ) : Type 0 where
  pub kind_is : kind ≡ p.kind
  pub amount_is : amount ≡ p.amount
  pub places_are : part from end walked ≡ p.places
  pub in_order : from ≤ end
  pub fits : end ≤ length walked

-- The list of these numbers was counted and, where the row has room for all of it, stored in its first places; later places stay.
pub record Stored (numbers list after : List ℕ) (r : ℕ) : Type 0 where
  pub counted : r ≡ length numbers
  pub small : r < 2 ^ 32
  pub stored : r ≤ length list → after ≡ numbers ++ drop r list
