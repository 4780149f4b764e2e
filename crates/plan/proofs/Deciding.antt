-- What the tests decide: whether the sums fit, whether the cut does, and whether the plan is full.
use Prim.Native.Nat.{ℕ, zero, suc, ◌+◌, ◌-◌}
use mathlib.Core.Path.{◌≡◌, refl, sym, ap, ◌∙◌}
use mathlib.Core.Bool.{Bool, true, false, true≢false}
use mathlib.Core.List.{List}
use native.Mathlib.Omega.{arith}
use lib.ListN.{length, get_or, replicate, length-replicate}
use Rattle.std.specs.Int.{from_bool}
use Rattle.rows.specs.Row.{Node}
use Rattle.table.specs.Table.{Table}
use Rattle.table.specs.Accepted.{Accepted}
use Rattle.amounts.specs.declared.Amount.{Amount}
use Rattle.sharing.specs.Full.{Full}
use Rattle.plan.specs.Checking.{Flags}
use Rattle.sharing.specs.Test.{out_sum, into_sum, SumsFit, CutFits}
use Rattle.pairs.specs.Places.{Zeros}
use Rattle.plan.specs.Rows.{HoldsAt, IsKept, Decides}
use Rattle.sharing.proofs.Sharing.{balanced_full, full_balanced}

-- A new row is as long as it was made,
pub zeros_length : (n : ℕ) → length {A = ℕ} (replicate n 0) ≡ n
zeros_length n = length-replicate {A = ℕ} n 0

-- and holds zeros.
pub zeros_row : (n : ℕ) → Zeros (replicate n 0)
zeros_row zero k = refl
zeros_row (suc n) zero = refl
zeros_row (suc n) (suc k) = zeros_row n k

-- ---- the sums

-- The sums of a text's amounts, out of nodes and into them.
module _ (t : Table) (value : ℕ) (amounts : List Amount) (out into : List ℕ) (outs : HoldsAt t.nodes out (out_sum amounts)) (intos : HoldsAt t.nodes into (into_sum amounts)) where
  -- More goes into some node than out of it, or less.
  pub sums_uneven : (kept : Bool) → IsKept t.nodes t.source t.sink out into kept → kept ≡ false → Decides kept (SumsFit t value amounts)
  sums_uneven true all e = absurd (true≢false e)
  sums_uneven false all e = λ fit.
      let (k, h, not_source, not_sink, differ) = all in
      let here : k + 1 - 1 ≡ k = omega arith in
      let node : Node t.nodes (k + 1) = (omega arith, omega arith) in
      let o : get_or out k 0 ≡ out_sum amounts (k + 1) = ap (λ (j : ℕ). get_or out j 0) (sym here) ∙ outs (k + 1) node in
      let i : get_or into k 0 ≡ into_sum amounts (k + 1) = ap (λ (j : ℕ). get_or into j 0) (sym here) ∙ intos (k + 1) node in
      differ (i ∙ fit.kept (k + 1) (record { node = node; not_source = not_source; not_sink = not_sink }) ∙ sym o)

-- ---- the plan

-- What is decided is told by 1 and 0.
pub flags_from : (P : Type 0) (b : Bool) (flag : ℕ) → Decides b P → flag ≡ from_bool b → Flags flag P
flags_from P true flag d e = record { one_or_none = omega arith; holds = λ _. d; told = λ _. e }
flags_from P false flag d e = record { one_or_none = omega arith; holds = λ one. absurd (omega arith); told = λ p. absurd (d p) }

module _ (t : Table) (ok : Accepted t) (value : ℕ) (amounts : List Amount) (side : List ℕ) where
  -- The sums do not fit,
  pub full_unfit : (b : Bool) → Decides b (SumsFit t value amounts) → b ≡ false → Decides b (Full t value amounts side)
  full_unfit true d e = absurd (true≢false e)
  full_unfit false d e = λ f. d (full_balanced t ok value amounts side f).0

  -- or they do, and the cut decides.
  pub full_decides : (b c : Bool) → Decides b (SumsFit t value amounts) → b ≡ true → Decides c (CutFits t value side) → Decides c (Full t value amounts side)
  full_decides true true d e f = balanced_full t ok value amounts side d f
  full_decides true false d e f = λ full. f (full_balanced t ok value amounts side full).1
  full_decides false c d e f = absurd (true≢false (sym e))
