-- The scale: the least power of two not below the largest excess, and one phase for each power down from it.
use Prim.Native.Nat.{ℕ, zero, suc, ◌+◌, ◌-◌, ◌/◌, ◌^◌, ◌≤◌, ◌<◌}
use mathlib.Core.Path.{◌≡◌, refl, sym, subst}
use mathlib.Core.Bool.{Bool, true, false}
use mathlib.Core.List.{List, [], ◌∷◌}
use native.Mathlib.Omega.{arith}
use native.Mathlib.Nat.{one-le-pow, pow-le-pow_right, pow-succ'}
use borrow.Author.Tests.{leb-true, leb-false, ltb-true, ltb-false}
use lib.Dec.{leb, ltb}
use lib.ListN.{get_or}
use Rattle.rows.proofs.Sums.{by_test, by_equal}
use Rattle.run.specs.Scale.{largest, doublings, phases_for, scale_of}
use Rattle.run.specs.Demands.{Scaled}

-- No number of a row is above the largest.
pub largest_most : (row : List ℕ) (k : ℕ) → get_or row k 0 ≤ largest row
unfolding largest
largest_most [] k = omega arith
largest_most (x ∷ row) zero = omega arith
largest_most (x ∷ row) (suc k) = omega (arith, largest_most row k)

-- The number of doublings is the first power, from j on, that is not below x; the fuel suffices where it reaches one.
record Doubled (x j d : ℕ) : Type 0 where
  pub from : j ≤ d
  pub reaches : x ≤ 2 ^ d
  pub first : (i : ℕ) → j ≤ i → i < d → 2 ^ i < x

-- It is, where the fuel suffices.
doubled : (x left j : ℕ) → x ≤ 2 ^ (j + left) → Doubled x j (doublings x left j)
unfolding doublings
doubled x zero j h = record { from = omega arith; reaches = subst (λ (e : ℕ). x ≤ 2 ^ e) (omega arith) h; first = λ i a b. absurd (omega arith) }
doubled x (suc left) j h = go (leb x (2 ^ j)) refl (doubled x left (suc j) (subst (λ (e : ℕ). x ≤ 2 ^ e) (omega arith) h))
  where
    go : (b : Bool) → leb x (2 ^ j) ≡ b → Doubled x (suc j) (doublings x left (suc j))
        → Doubled x j (elim b as (λ _. ℕ) [ true ↦ j | false ↦ doublings x left (suc j) ])
    go true e on = record { from = omega arith; reaches = leb-true x (2 ^ j) e; first = λ i a b. absurd (omega arith) }
    go false e on =
        record {
          from = omega (arith, on.from);
          reaches = on.reaches;
          first =
              λ i a b.
              by_equal i j (λ p. subst (λ (y : ℕ). 2 ^ y < x) (sym p) (leb-false x (2 ^ j) e)) (λ p. on.first i (omega arith) b);
        }

-- No smaller power is not below x.
doubled_least : (x d i : ℕ) → Doubled x 0 d → x ≤ 2 ^ i → 2 ^ d ≤ 2 ^ i
doubled_least x d i found h =
    by_test (ltb i d)
    (λ e. absurd (omega (arith, found.first i (omega arith) (ltb-true i d e))))
    (λ e. pow-le-pow_right {n = 2} (omega arith) (ltb-false i d e))

-- The definitions give these where x fits 32 bits: the fuel suffices.
pub scaled : (x : ℕ) → x ≤ 2 ^ 32 → Scaled x (scale_of (phases_for x)) (phases_for x)
unfolding phases_for scale_of
scaled zero h =
    record { none = λ e. (refl, refl); power = λ some. absurd (omega arith); above = omega arith; least = λ i l. omega arith }
scaled (suc x) h =
    record {
      none = λ e. absurd (omega arith);
      power = λ some. (doublings (suc x) 32 0, refl, omega arith);
      above = (doubled (suc x) 32 0 h).reaches;
      least = λ i l. doubled_least (suc x) (doublings (suc x) 32 0) i (doubled (suc x) 32 0 h) l;
    }

-- The doublings counted are at most those there was leave for.
doublings_most : (x left j : ℕ) → doublings x left j ≤ j + left
unfolding doublings
doublings_most x zero j = omega arith
doublings_most x (suc left) j = go (leb x (2 ^ j)) (doublings_most x left (suc j))
  where
    go : (b : Bool) → doublings x left (suc j) ≤ suc j + left → (elim b as (λ _. ℕ) [ true ↦ j | false ↦ doublings x left (suc j) ]) ≤ j + suc left
    go true on = omega arith
    go false on = omega arith

-- There are at most 33 phases.
pub phases_most : (x : ℕ) → phases_for x ≤ 33
unfolding phases_for
phases_most zero = omega arith
phases_most (suc x) = omega (arith, doublings_most (suc x) 32 0)

-- Delta is above 0 where a phase is left,
pub some_scale : (j : ℕ) → 0 < j → 0 < scale_of j
unfolding scale_of
some_scale zero some = absurd (omega arith)
some_scale (suc j) some = one-le-pow j 2 (omega arith)

-- and halved by each phase.
pub halved : (j : ℕ) → 0 < j → scale_of j / 2 ≡ scale_of (j - 1)
unfolding scale_of
halved zero some = absurd (omega arith)
halved (suc zero) some = refl
halved (suc (suc j)) some = let less : suc (suc j) - 1 ≡ suc j = omega arith in rw less (omega (arith, pow-succ' 2 j))
