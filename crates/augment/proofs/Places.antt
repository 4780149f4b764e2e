-- The lowest place that leads is the first in a node's list.
use Prim.Native.Nat.{ℕ, ◌<◌}
use mathlib.Core.Path.{◌≡◌, refl, sym, ap, ◌∙◌}
use mathlib.Core.Logic.{inl, inr}
use mathlib.Core.Bool.{true, false}
use mathlib.Core.List.{List}
use native.Mathlib.Omega.{arith}
use lib.Dec.{ltb}
use lib.ListN.{length}
use borrow.Author.Tests.{ltb-true, ltb-false, ne_eqb}
use Rattle.rows.specs.Row.{at_place}
use Rattle.rows.proofs.Sums.{by_test, by_equal}
use Rattle.shortest.specs.Ways.{Ways}
use Rattle.shortest.specs.Distance.{leads_by, leads_to, next}
use Rattle.measuring.specs.Visits.{ListOf}
use Rattle.augment.proofs.Walking.{lowest_unique}

module _ (w : Ways) (row : List ℕ) (d i : ℕ) (l : List ℕ) (is : ListOf w i l) where
  -- An arc that does not touch node i does not lead from it.
  apart_shut : (k : ℕ) → (w.tail_at k ≡ i → ⊥) → (w.head_at k ≡ i → ⊥) → leads_to w row d i k ≡ false
  unfolding leads_to leads_by
  apart_shut k not_tail not_head = rw (ne_eqb (w.tail_at k) i not_tail, ne_eqb (w.head_at k) i not_head)

  -- Where the first p of the list do not lead, no place before the next does.
  none_before : (p : ℕ) → ((q : ℕ) → q < p → leads_to w row d i (at_place l q) ≡ false) → (k : ℕ) → k < w.places
      → ((q : ℕ) → q < length l → at_place l q ≡ k → q < p) → leads_to w row d i k ≡ false
  none_before p none k h early =
      by_equal (w.tail_at k) i
      (λ e. found (is.all k h (inl e)))
      (λ not_tail.
      by_equal (w.head_at k) i
      (λ e. found (is.all k h (inr e)))
      (λ not_head. apart_shut k not_tail not_head))
    where
      found : ((q : ℕ) × (q < length l) × (at_place l q ≡ k)) → leads_to w row d i k ≡ false
      found (q, b, e) = ap (leads_to w row d i) (sym e) ∙ none q (early q b e)

  -- The first that leads is the lowest,
  pub next_in_list : (p : ℕ) → p < length l → ((q : ℕ) → q < p → leads_to w row d i (at_place l q) ≡ false) → leads_to w row d i (at_place l p) ≡ true
      → at_place l p ≡ next w row d i
  unfolding next
  next_in_list p h none e =
      lowest_unique (leads_to w row d i) w.places (at_place l p) (
        (λ k less. none_before p none k (omega (arith, is.each p h)) (λ q b same. early q b same less)),
        inl (is.each p h, e),
      )
    where
      early : (q : ℕ) → q < length l → {k : ℕ} → at_place l q ≡ k → k < at_place l p → q < p
      early q b same less =
          by_equal q p
          (λ z. absurd (omega (arith, ap (at_place l) z, same, less)))
          (λ z. by_test (ltb q p) (λ y. ltb-true q p y)
          (λ y. let past = ltb-false q p y in absurd (omega (arith, is.rises p q (omega arith) b, same, less))))

  -- and where none does, no place does.
  pub next_nowhere : ((q : ℕ) → q < length l → leads_to w row d i (at_place l q) ≡ false) → w.places ≡ next w row d i
  unfolding next
  next_nowhere none =
      lowest_unique (leads_to w row d i) w.places w.places
      ((λ k less. none_before (length l) none k less (λ q b same. b)), inr refl)
