-- Laws of the code that tells whether arcs are full: two parts of rows, compared place by place.
use Prim.Native.Nat.{ℕ, suc, ◌+◌, ◌-◌, ◌≤◌, ◌<◌}
use mathlib.Core.Path.{◌≡◌, ap, sym, ◌∙◌}
use mathlib.Core.Bool.{Bool, false, true≢false, ◌&&◌}
use mathlib.Core.List.{List, [], ◌∷◌}
use native.Mathlib.Omega.{arith}
use borrow.Author.Tests.{eq-eqb}
use lib.Dec.{eqb}
use lib.ListN.{length, drop, length-drop}
use lib.Seq.{get_or-take, length-take-le}
use Rattle.std.proofs.Common.{get_or-drop}
use lib.Pointwise.{pointwise, bytes_decides}
use Rattle.rows.specs.Row.{at_place, part}
use Rattle.rows.proofs.Sums.{by_equal}
use Rattle.feasible.specs.Filling.{Full}

-- Two rows of one length that are not the same differ at a place.
differ : (xs ys : List ℕ) → length xs ≡ length ys → pointwise eqb xs ys ≡ false → (j : ℕ) × (j < length xs) × (at_place xs j ≡ at_place ys j → ⊥)
differ [] [] long e = absurd (true≢false e)
differ [] (y ∷ ys) long e = absurd (omega arith)
differ (x ∷ xs) [] long e = absurd (omega arith)
differ (x ∷ xs) (y ∷ ys) long e =
    by_equal x y
    (λ same. later (differ xs ys (omega arith) (sym (ap (λ b. b && pointwise eqb xs ys) (eq-eqb x y same)) ∙ e)))
    (λ other. (0, omega arith, other))
  where
    later : ((j : ℕ) × (j < length xs) × (at_place xs j ≡ at_place ys j → ⊥)) → (j : ℕ) × (j < length (x ∷ xs)) × (at_place (x ∷ xs) j ≡ at_place (y ∷ ys) j → ⊥)
    later r = (suc r.0, omega arith, r.2)

-- What stands at a place of a part.
at_part : (row : List ℕ) (from to j : ℕ) → j < to - from → at_place (part from to row) j ≡ at_place row (from + j)
at_part row from to j l = get_or-take (to - from) (drop from row) j 0 l ∙ get_or-drop from row j 0

module _ (capacities flow : List ℕ) (from to : ℕ) (in_capacities : to ≤ length capacities) (in_flow : to ≤ length flow) where
  long : (row : List ℕ) → to ≤ length row → length (part from to row) ≡ to - from
  long row fits = length-take-le (to - from) (drop from row) (omega (arith, length-drop from row))

  -- The arcs of a part are full where the part of the flow is the part of the capacities.
  pub full_by : (full : Bool) → full ≡ pointwise eqb (part from to flow) (part from to capacities) → Full capacities flow from to full
  full_by full is =
      record {
        all =
            λ e k l h.
            let here : from + (k - from) ≡ k = omega arith in
            ap (at_place capacities) (sym here)
            ∙ sym (at_part capacities from to (k - from) (omega arith))
            ∙ sym (ap (λ row. at_place row (k - from)) ((bytes_decides _ _).0 (sym is ∙ e)))
            ∙ at_part flow from to (k - from) (omega arith)
            ∙ ap (at_place flow) here;
        some = λ e. placed (differ _ _ (long flow in_flow ∙ sym (long capacities in_capacities)) (sym is ∙ e));
      }
    where
      placed : ((j : ℕ) × (j < length (part from to flow)) × (at_place (part from to flow) j ≡ at_place (part from to capacities) j → ⊥))
          → (k : ℕ) × (from ≤ k) × (k < to) × (at_place flow k ≡ at_place capacities k → ⊥)
      placed r =
          let short : r.0 < to - from = omega (arith, r.1, long flow in_flow) in
          (from + r.0, omega arith, omega arith, λ same. r.2 (at_part flow from to r.0 short ∙ same ∙ sym (at_part capacities from to r.0 short)))
