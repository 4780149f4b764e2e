-- The test for a full plan, of sums alone. That it is exactly that is proved (Sharing).
use Rattle.std.specs.Prelude.{ℕ, ◌+◌, ◌≤◌, ◌≡◌, List, eqb}
use Rattle.network.specs.Network.{Inner, Cut, leaving}
use Rattle.table.specs.Table.{Table, capacity, network_of}
use Rattle.reach.specs.Side.{marked}
use Rattle.amounts.specs.declared.Amount.{Amount}
use Rattle.sharing.specs.Full.{sum_where, pair_sum, arc_sum}

-- The amounts out of node i,
abbrev pub out_sum : List Amount → ℕ → ℕ
out_sum amounts i = sum_where (λ x. eqb x.tail i) amounts

-- and into it.
abbrev pub into_sum : List Amount → ℕ → ℕ
into_sum amounts i = sum_where (λ x. eqb x.head i) amounts

-- The sums of the text: none is above the capacities of its pair, what goes into inner nodes goes out of them, and the net out of the source is the value.
pub record SumsFit (t : Table) (value : ℕ) (amounts : List Amount) : Type 0 where
  pub below : (a b : ℕ) → pair_sum amounts a b ≤ arc_sum t (capacity t) a b
  pub kept : (i : ℕ) → Inner (network_of t) i → into_sum amounts i ≡ out_sum amounts i
  pub net : out_sum amounts t.source ≡ into_sum amounts t.source + value

-- The marks: a cut of that capacity.
pub record CutFits (t : Table) (value : ℕ) (side : List ℕ) : Type 0 where
  pub cut : Cut (network_of t) (marked side)
  pub least : leaving (network_of t) (marked side) (capacity t) ≡ value
