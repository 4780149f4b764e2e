-- Document 02, CR 8: when another product's plan fills the week.
use Rattle.std.specs.Prelude.{ℕ, ◌+◌, ◌≡◌, Bool, ◌&&◌, List, [], ◌∷◌, eqb}
use Rattle.rows.specs.Sum.{sum, only}
use Rattle.network.specs.Network.{Flow, Value, Cut, leaving}
use Rattle.table.specs.Table.{Table, arcs, tail, head, capacity, network_of}
use Rattle.reach.specs.Side.{marked}
use Rattle.amounts.specs.declared.Amount.{Amount}

-- The sum of the amounts that a test lets through.
unfoldable pub sum_where : (Amount → Bool) → List Amount → ℕ
sum_where test [] = 0
sum_where test (x ∷ rest) = only (test x) x.flow + sum_where test rest

-- A pair is ordered: this tail and this head.
abbrev pub is_pair : (a b tail head : ℕ) → Bool
is_pair a b tail head = eqb tail a && eqb head b

-- The text's sum of a pair; one that is left out is 0.
abbrev pub pair_sum : List Amount → (a b : ℕ) → ℕ
pair_sum amounts a b = sum_where (λ x. is_pair a b x.tail x.head) amounts

-- The sum of the arcs of a pair, of their flows or of their capacities; a pair that no arc has gives 0.
abbrev pub arc_sum : Table → (ℕ → ℕ) → (a b : ℕ) → ℕ
arc_sum t f a b = sum (arcs t) (λ k. only (is_pair a b (tail t k) (head t k)) (f k))

-- A full plan: the sums can be shared among the arcs of each pair within capacity as a flow, whose net out of the source is the `s` line;
-- the source is marked and the sink is not, and the marked cut has that capacity.
pub record Full (t : Table) (value : ℕ) (amounts : List Amount) (side : List ℕ) : Type 0 where
  pub flow : ℕ → ℕ
  pub valid : Flow (network_of t) flow
  pub shared : (a b : ℕ) → arc_sum t flow a b ≡ pair_sum amounts a b
  pub net : Value (network_of t) flow value
  pub cut : Cut (network_of t) (marked side)
  pub least : leaving (network_of t) (marked side) (capacity t) ≡ value
