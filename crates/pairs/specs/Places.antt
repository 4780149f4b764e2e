-- Where a pair's number is kept: at the place of the pair's first arc, found by the chain of its tail. Only contracts of the crates above speak of it.
use Rattle.std.specs.Prelude.{ℕ, zero, suc, ◌+◌, ◌*◌, ◌-◌, ◌%◌, ◌≤◌, ◌<◌, ◌≡◌, Bool, true, false, ◌&&◌, List, leb, length, Option, Some, None}
use Rattle.rows.specs.Row.{Node, at_place}
use Rattle.rows.specs.Sum.{sum, only}
use Rattle.amounts.specs.declared.Amount.{Amount}
use Rattle.sharing.specs.Full.{is_pair, pair_sum}

-- A number is one of the nodes 1 to n.
unfoldable pub is_node : (n i : ℕ) → Bool
is_node n i = leb 1 i && leb i n

-- The first of two numbers that is not 0.
unfoldable pub first_or : ℕ → ℕ → ℕ
first_or zero y = y
first_or (suc x) y = suc x

-- The first arc of a pair among the first k, its place counted from 1; 0 where none of them has that pair.
unfoldable pub first_to : (tail head : ℕ → ℕ) (k a b : ℕ) → ℕ
first_to tail head zero a b = 0
first_to tail head (suc k) a b = first_or (first_to tail head k a b) (only (is_pair a b (tail k) (head k)) (suc k))

-- The chain that an arc of a pair stands in: each tail has eight, by what the head leaves over when divided by 8.
abbrev pub chain_of : (a b : ℕ) → ℕ
chain_of a b = (a - 1) * 8 + b % 8

-- A chain, whose places count from 1 and which 0 ends: from here it leads to the first of its arcs that has this head, or to its end.
pub data Leads (heads next : List ℕ) (b : ℕ) : (from found : ℕ) → Type 0 where
  ended : (from found : ℕ) → from ≡ 0 → found ≡ 0 → Leads heads next b from found
  here : (k from found : ℕ) → from ≡ suc k → found ≡ from → at_place heads k ≡ b → Leads heads next b from found
  on : (k from found : ℕ) → from ≡ suc k → (at_place heads k ≡ b → ⊥) → Leads heads next b (at_place next k) found → Leads heads next b from found

-- The row of where each chain begins and the row of where each arc's goes on: they lead to each pair's place.
pub record Places (n : ℕ) (heads first next : List ℕ) (place : ℕ → ℕ → ℕ) : Type 0 where
  pub first_long : n * 8 ≤ length first
  pub next_long : length heads ≤ length next
  pub falls : (k : ℕ) → at_place next k ≤ k
  pub starts : (q : ℕ) → at_place first q ≤ length heads
  pub finds : (a b : ℕ) → Node n a → Leads heads next b (at_place first (chain_of a b)) (place a b)
  pub others : (a b : ℕ) → (Node n a → ⊥) → place a b ≡ 0
  pub apart : (a b c d k : ℕ) → place a b ≡ suc k → place c d ≡ suc k → (a ≡ c) × (b ≡ d)

-- The same once the first k arcs are in chains, none of which begins with a later arc.
pub record Built (n k : ℕ) (tails heads first next : List ℕ) : Type 0 where
  pub places : Places n heads first next (first_to (at_place tails) (at_place heads) k)
  pub begun : (q : ℕ) → at_place first q ≤ k

-- A place counted from 1, and 0 for none.
abbrev pub counted : Option ℕ → ℕ
counted None = 0
counted (Some k) = suc k

-- What is kept at a place that counts from 1, and nothing at 0.
abbrev pub kept_at : List ℕ → ℕ → ℕ
kept_at row zero = 0
kept_at row (suc k) = at_place row k

-- What the row keeps of a pair.
abbrev pub room_at : (place : ℕ → ℕ → ℕ) (row : List ℕ) (a b : ℕ) → ℕ
room_at place row a b = kept_at row (place a b)

-- The capacities of the arcs of a pair.
abbrev pub pair_capacity : (tails heads capacities : List ℕ) (a b : ℕ) → ℕ
pair_capacity tails heads capacities a b =
    sum (length capacities) (λ k. only (is_pair a b (at_place tails k) (at_place heads k)) (at_place capacities k))

-- Amounts were taken from what is left of their pairs, or of some pair there was too little.
abbrev pub Takes : (place : ℕ → ℕ → ℕ) (row : List ℕ) (amounts : List Amount) (fits : Bool) (row' : List ℕ) → Type 0
Takes place row amounts true row' = (a b : ℕ) → room_at place row' a b + pair_sum amounts a b ≡ room_at place row a b
Takes place row amounts false row' = (a : ℕ) × (b : ℕ) × (room_at place row a b < pair_sum amounts a b)

-- A row of zeros.
abbrev pub Zeros : List ℕ → Type 0
Zeros row = (k : ℕ) → at_place row k ≡ 0
