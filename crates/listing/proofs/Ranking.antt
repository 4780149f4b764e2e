-- Numbers that pass a test, and the rank of each among them.
use Prim.Native.Nat.{ℕ, zero, suc, ◌+◌, ◌≤◌, ◌<◌}
use mathlib.Core.Path.{◌≡◌, refl, ap, sym, ◌∙◌, subst, subst⁻¹}
use mathlib.Core.Bool.{Bool, true, false, cond}
use mathlib.Core.List.{List, [], ◌∷◌, ◌++◌, map}
use native.Mathlib.Omega.{arith}
use borrow.Author.Tests.{ltb-true, ltb-false}
use lib.Dec.{ltb}
use mir.Val.{bool_byte}
use lib.ListN.{length, set, take, drop, get_or-append}
use lib.Seq.{get_or_at, take_at}
use Rattle.rows.specs.Row.{at_place}
use Rattle.rows.specs.Sum.{sum, only}
use Rattle.rows.proofs.Sums.{by_equal, by_test, only_of_zero}
use Rattle.listing.specs.Passing.{passing, filled_with, Lists}
use Rattle.listing.proofs.Listing.{copy_next, passing_no, passing_yes, count_next, passing_rises}

-- A row of f at each number of a list.
pub map_at : (f : ℕ → ℕ) (l : List ℕ) (q : ℕ) → q < length l → at_place (map f l) q ≡ f (at_place l q)
map_at f [] q h = absurd (omega arith)
map_at f (x ∷ l) zero h = refl
map_at f (x ∷ l) (suc q) h = map_at f l q (omega arith)

-- It is as long.
pub map_long : (f : ℕ → ℕ) (l : List ℕ) → length (map f l) ≡ length l
map_long f [] = refl
map_long f (x ∷ l) = ap suc (map_long f l)

module _ (test : ℕ → Bool) where
  -- How many pass below k: the rank of k where it passes.
  abbrev pub rank : ℕ → ℕ
  rank k = length (passing test k)

  -- A number that passes has a rank,
  pub rank_below : (k n : ℕ) → test k ≡ true → k < n → rank k < rank n
  rank_below k n e l = omega (arith, count_next test k e, passing_rises test (suc k) n l)

  -- and stands there.
  pub at_rank : (k n : ℕ) → test k ≡ true → k < n → at_place (passing test n) (rank k) ≡ k
  at_rank k zero e l = absurd (omega arith)
  at_rank k (suc n) e l =
      by_equal k n
      (λ same.
      let here : test n ≡ true = ap test (sym same) ∙ e in
      rw (passing_yes test n here, same) (get_or_at (passing test n) n [] 0 (rank n) refl))
      (λ other.
      let less : k < n = omega arith in
      by_test (test n)
      (λ yes'.
      rw (passing_yes test n yes') (get_or-append (passing test n) (n ∷ []) 0 (rank k) (rank_below k n e less) ∙ at_rank k n e less))
      (λ no'. rw (passing_no test n no') (at_rank k n e less)))

  -- Two numbers of one rank are one.
  pub rank_once : (i j : ℕ) → test i ≡ true → test j ≡ true → rank i ≡ rank j → i ≡ j
  rank_once i j a b e =
      sym (at_rank i (suc (i + j)) a (omega arith)) ∙ ap (at_place (passing test (suc (i + j)))) e ∙ at_rank j (suc (i + j)) b (omega arith)

  -- What stands at a place of the list.
  pub record Ranked (n q : ℕ) : Type 0 where
    pub below : at_place (passing test n) q < n
    pub passes : test (at_place (passing test n) q) ≡ true
    pub ranked : rank (at_place (passing test n) q) ≡ q

  -- Every place has one.
  pub ranked_at : (n q : ℕ) → q < rank n → Ranked n q
  unfolding passing
  ranked_at zero q h = absurd (omega arith)
  ranked_at (suc n) q h = by_test (test n) (yes' (ranked_at n q)) (no' (ranked_at n q))
    where
      Is : ℕ → Type 0
      Is x = (x < suc n) × ((test x ≡ true) × (rank x ≡ q))

      made : Is (at_place (passing test (suc n)) q) → Ranked (suc n) q
      made r = record { below = r.0; passes = r.1.0; ranked = r.1.1 }

      old : Ranked n q → Is (at_place (passing test n) q)
      old r = (omega (arith, r.below), (r.passes, r.ranked))

      no' : (q < rank n → Ranked n q) → test n ≡ false → Ranked (suc n) q
      no' earlier e = made (subst (λ l. Is (at_place l q)) (sym (passing_no test n e)) (old (earlier (omega (arith, ap length (passing_no test n e))))))

      yes' : (q < rank n → Ranked n q) → test n ≡ true → Ranked (suc n) q
      yes' earlier e =
          made
          (subst (λ l. Is (at_place l q)) (sym (passing_yes test n e))
          (by_equal q (rank n)
          (λ same. subst Is (sym (get_or_at (passing test n) n [] 0 q (sym same))) (omega arith, (e, sym same)))
          (λ other.
          let h' : q < rank n = omega (arith, count_next test n e) in
          subst Is (sym (get_or-append (passing test n) (n ∷ []) 0 q h')) (old (earlier h')))))

  -- The numbers that pass are listed, and no others, rising.
  pub passing_lists : (n : ℕ) → Lists test n (passing test n)
  passing_lists n =
      record {
        each = λ i l. ((ranked_at n i l).below, (ranked_at n i l).passes);
        all = λ k l e. (rank k, rank_below k n e l, at_rank k n e l);
        rising =
            λ i j l r.
            let low = ranked_at n i (omega arith) in
            let high = ranked_at n j r in
            by_test (ltb (at_place (passing test n) i) (at_place (passing test n) j))
            (λ e. ltb-true _ _ e)
            (λ e.
            absurd
            (omega (
              arith,
              low.ranked,
              high.ranked,
              passing_rises test (at_place (passing test n) j) (at_place (passing test n) i) (ltb-false _ _ e),
            )));
      }

  -- A row with such a list in its first places has it in its filled part.
  pub filled_lists : (n other count : ℕ) (row : List ℕ) → other ≡ n → count ≡ length (passing test other)
      → Lists test n (take count (filled_with (passing test other) row))
  filled_lists n other count row same counted =
      subst⁻¹ (Lists test n) (take_at (passing test other) (drop (length (passing test other)) row) count (sym counted))
      (subst (λ k. Lists test n (passing test k)) (sym same) (passing_lists n))

  -- A sum over the numbers that pass is a sum over their ranks.
  pub sum_ranks : (f : ℕ → ℕ) (p p' : ℕ → Bool) (m : ℕ) → ((k : ℕ) → k < m → test k ≡ true → p' (rank k) ≡ p k)
      → sum m (λ k. only (p k) (cond (test k) (f (rank k)) 0)) ≡ sum (rank m) (λ j. only (p' j) (f j))
  unfolding sum passing
  sum_ranks f p p' zero same = refl
  sum_ranks f p p' (suc m) same =
      let before = sum_ranks f p p' m (λ k l. same k (omega arith)) in
      by_test (test m) (yes' before) (no' before)
    where
      Before : Type 0
      Before = sum m (λ k. only (p k) (cond (test k) (f (rank k)) 0)) ≡ sum (rank m) (λ j. only (p' j) (f j))

      Goal : Type 0
      Goal = sum (suc m) (λ k. only (p k) (cond (test k) (f (rank k)) 0)) ≡ sum (rank (suc m)) (λ j. only (p' j) (f j))

      no' : Before → test m ≡ false → Goal
      no' before e = rw (passing_no test m e, e, only_of_zero (p m)) (omega (arith, before))

      yes' : Before → test m ≡ true → Goal
      yes' before e =
          let longer : rank (suc m) ≡ suc (rank m) = omega (arith, count_next test m e) in
          let here : only (p' (rank m)) (f (rank m)) ≡ only (p m) (f (rank m)) = ap (λ b. only b (f (rank m))) (same m (omega arith) e) in
          rw (longer, e) (omega (arith, before, here))

  -- Counting on: one more where k passes.
  pub count_by : (k count more : ℕ) (keep : Bool) → keep ≡ test k → count ≡ rank k → more ≡ bool_byte keep → count + more ≡ rank (suc k)
  count_by k count more true kept counted e = omega (arith, counted, e, count_next test k (sym kept))
  count_by k count more false kept counted e = omega (arith, counted, e, ap length (passing_no test k (sym kept)))

-- A store of what stands at place j of a list, into a row that holds its first j numbers.
pub copy_on : (l row old : List ℕ) (j x : ℕ) → j < length l → length l ≤ length old → x ≡ at_place l j → row ≡ take j l ++ drop j old
    → set row j x ≡ take (j + 1) l ++ drop (j + 1) old
copy_on l row old j x h room e held = rw (held, e) (copy_next l old j h room)
