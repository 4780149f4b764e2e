-- What the code keeps in its rows, and what its tests find. Only contracts of private functions speak of it.
use Rattle.std.specs.Prelude.{ℕ, ◌+◌, ◌-◌, ◌≤◌, ◌<◌, ◌≡◌, Bool, true, false, List, length, get_or}
use Rattle.rows.specs.Row.{Node}
use Rattle.amounts.specs.declared.Amount.{Amount}
use Rattle.sharing.specs.Full.{pair_sum}
use Rattle.pairs.specs.Places.{room_at, pair_capacity}

-- A row by node with f of each node added, and at most 4,294,967,295 anywhere.
abbrev pub Adds : (n : ℕ) (row row' : List ℕ) (f : ℕ → ℕ) → Type 0
Adds n row row' f =
    ((i : ℕ) → Node n i → get_or row' (i - 1) 0 ≡ get_or row (i - 1) 0 + f i) × ((k : ℕ) → get_or row' k 0 ≤ get_or row k 0 + 4294967295)

-- All amounts were taken, or of some pair there was too little.
abbrev pub TookAll : (place : ℕ → ℕ → ℕ) (row : List ℕ) (amounts : List Amount) (fits : Bool) → Type 0
TookAll place row amounts true = (a b : ℕ) → pair_sum amounts a b ≤ room_at place row a b
TookAll place row amounts false = (a : ℕ) × (b : ℕ) × (room_at place row a b < pair_sum amounts a b)

-- No sum of the amounts is above the capacities of its pair, or some is.
abbrev pub IsBelow : (tails heads capacities : List ℕ) (amounts : List Amount) → Bool → Type 0
IsBelow tails heads capacities amounts true = (a b : ℕ) → pair_sum amounts a b ≤ pair_capacity tails heads capacities a b
IsBelow tails heads capacities amounts false = (a : ℕ) × (b : ℕ) × (pair_capacity tails heads capacities a b < pair_sum amounts a b)

-- No number of a row is above `most`.
abbrev pub AtMost : (most : ℕ) → List ℕ → Type 0
AtMost most row = (k : ℕ) → get_or row k 0 ≤ most

-- The rows that amounts are taken into: of the pairs of m arcs, of what goes out of each node and of what goes into it.
pub record Rows (n m : ℕ) (room out into : List ℕ) : Type 0 where
  pub few : n ≤ 512
  pub pairs : m ≤ length room
  pub nodes_out : length out ≡ 512
  pub nodes_into : length into ≡ 512

-- A row by node holds f of each node.
abbrev pub HoldsAt : (n : ℕ) (row : List ℕ) (f : ℕ → ℕ) → Type 0
HoldsAt n row f = (i : ℕ) → Node n i → get_or row (i - 1) 0 ≡ f i

-- What goes into each node but source and sink goes out of it, or of some it does not. Node i's numbers stand at place i - 1.
abbrev pub IsKept : (n s t : ℕ) (out into : List ℕ) → Bool → Type 0
IsKept n s t out into true = (k : ℕ) → k < n → (k + 1 ≡ s → ⊥) → (k + 1 ≡ t → ⊥) → get_or into k 0 ≡ get_or out k 0
IsKept n s t out into false = (k : ℕ) × (k < n) × (k + 1 ≡ s → ⊥) × (k + 1 ≡ t → ⊥) × (get_or into k 0 ≡ get_or out k 0 → ⊥)

-- Whether something holds.
abbrev pub Decides : Bool → Type 0 → Type 0
Decides true P = P
Decides false P = P → ⊥

-- The node i is source or sink, or as much goes into it as out of it.
abbrev pub IsEven : (i s t into out : ℕ) → Bool → Type 0
IsEven i s t into out true = (i ≡ s → ⊥) → (i ≡ t → ⊥) → into ≡ out
IsEven i s t into out false = (i ≡ s → ⊥) × (i ≡ t → ⊥) × (into ≡ out → ⊥)
