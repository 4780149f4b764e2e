-- The sums, day after day: how many are solved, their values together, and the first of least value.
use Prim.Native.Nat.{ℕ, zero, suc, ◌+◌, ◌≤◌, ◌<◌}
use mathlib.Core.Path.{◌≡◌, refl, sym, ap, ◌∙◌}
use mathlib.Core.Bool.{Bool, true, false, cond, ◌||◌, true≢false}
use native.Mathlib.Omega.{arith}
use borrow.Author.Tests.{eqb-true, eqb-false, ltb-true, ltb-false}
use lib.Dec.{eqb, ltb}
use Rattle.rows.specs.Sum.{sum, only}
use Rattle.rows.proofs.Sums.{by_test, by_equal, only_true, only_false, sum_ext}
use Rattle.table.proofs.Faults.{neither}
use Rattle.tally.specs.declared.Tally.{Tally}
use Rattle.tally.specs.Sums.{no_tally, is_lower, counted, FirstLeast, Summed}

-- The sums of the first k days, with the least value so far.
pub record Counts (p : ℕ → Bool) (f : ℕ → ℕ) (k : ℕ) (b : Tally) : Type 0 where
  pub summed : Summed k p f b.solved b.total b.day
  pub least_is : (i : ℕ) → b.day ≡ i + 1 → b.least ≡ f i

-- One of two tests holds.
either : (a b : Bool) → a || b ≡ true → {A : Type 0} → (a ≡ true → A) → (b ≡ true → A) → A
either true b e f g = f refl
either false b e f g = g e

module _ (p : ℕ → Bool) (f : ℕ → ℕ) where
  -- Before the first day.
  pub counts_none : Counts p f 0 no_tally
  unfolding sum
  counts_none =
      record {
        summed = record { solved_are = refl; total_is = refl; none = λ _ j l. absurd (omega arith); some = λ i e. absurd (omega arith) };
        least_is = λ i e. absurd (omega arith);
      }

  module _ (k : ℕ) (b : Tally) (so : Counts p f k b) where
    -- The number of a first least day is that of a place.
    before : 0 < b.day → (i : ℕ) × (b.day ≡ i + 1)
    before h = at b.day refl
      where
        at : (x : ℕ) → x ≡ b.day → (i : ℕ) × (b.day ≡ i + 1)
        at zero e = absurd (omega arith)
        at (suc i) e = (i, omega arith)

    -- A day that is not solved changes nothing.
    refused_counts : p k ≡ false → Counts p f (suc k) b
    unfolding sum
    refused_counts e =
        record {
          summed =
              record {
                solved_are = omega (arith, so.summed.solved_are, only_false (p k) 1 e);
                total_is = omega (arith, so.summed.total_is, only_false (p k) (f k) e);
                none = λ z j l. by_equal j k (λ q. ap p q ∙ e) (λ q. so.summed.none z j (omega arith));
                some = λ i d. longer i (so.summed.some i d);
              };
          least_is = so.least_is;
        }
      where
        longer : (i : ℕ) → FirstLeast k p f i → FirstLeast (suc k) p f i
        longer i old =
            record {
              inside = omega (arith, old.inside);
              is_solved = old.is_solved;
              least = λ j l q. by_equal j k (λ r. absurd (true≢false (sym q ∙ ap p r ∙ e))) (λ r. old.least j (omega arith) q);
              first = old.first;
            }

    -- The first solved day, or one below the least so far, is the first of least value.
    lower_first : p k ≡ true → is_lower b (f k) ≡ true → FirstLeast (suc k) p f k
    lower_first e low =
        record {
          inside = omega arith;
          is_solved = e;
          least = λ j l q. by_equal j k (λ r. omega (arith, ap f r)) (λ r. omega (arith, below j (omega arith) q));
          first = below;
        }
      where
        below : (j : ℕ) → j < k → p j ≡ true → f k < f j
        below j l q =
            either (eqb b.day 0) (ltb (f k) b.least) low
            (λ z. absurd (true≢false (sym q ∙ so.summed.none (eqb-true b.day 0 z) j l)))
            (λ z. by_equal b.day 0
            (λ none. absurd (true≢false (sym q ∙ so.summed.none none j l)))
            (λ some. let (i, d) = before (omega arith) in omega (arith, ltb-true (f k) b.least z, so.least_is i d, (so.summed.some i d).least j l q)))

    -- A solved day adds its value, and is the first of least value or leaves it.
    solved_counts : p k ≡ true → Counts p f (suc k) (counted b (k + 1) (f k))
    unfolding sum counted
    solved_counts e = by_test (is_lower b (f k)) lower higher
      where
        stays : (i : ℕ) → b.day ≡ i + 1 → b.least ≤ f k → FirstLeast k p f i → FirstLeast (suc k) p f i
        stays i d above old =
            record {
              inside = omega (arith, old.inside);
              is_solved = old.is_solved;
              least = λ j l q. by_equal j k (λ r. omega (arith, ap f r, so.least_is i d)) (λ r. old.least j (omega arith) q);
              first = old.first;
            }

        more : b.solved + 1 ≡ sum k (λ j. only (p j) 1) + only (p k) 1
        more = omega (arith, so.summed.solved_are, only_true (p k) 1 e)

        sums : b.total + f k ≡ sum k (λ j. only (p j) (f j)) + only (p k) (f k)
        sums = omega (arith, so.summed.total_is, only_true (p k) (f k) e)

        lower : is_lower b (f k) ≡ true → Counts p f (suc k) (counted b (k + 1) (f k))
        lower low =
            rw low
            (record {
              summed =
                  record {
                    solved_are = more;
                    total_is = sums;
                    none = λ z. absurd (omega arith);
                    some = λ i d. let same : k ≡ i = omega arith in rw (← same) (lower_first e low);
                  };
              least_is = λ i d. let same : k ≡ i = omega arith in ap f same;
            })

        higher : is_lower b (f k) ≡ false → Counts p f (suc k) (counted b (k + 1) (f k))
        higher high =
            let (day, above) = neither (eqb b.day 0) (ltb (f k) b.least) high in
            rw high
            (record {
              summed =
                  record {
                    solved_are = more;
                    total_is = sums;
                    none = λ z. absurd (eqb-false b.day 0 day z);
                    some = λ i d. stays i d (ltb-false (f k) b.least above) (so.summed.some i d);
                  };
              least_is = so.least_is;
            })

  -- One day more.
  pub counts_next : (k : ℕ) (b : Tally) → Counts p f k b → Counts p f (suc k) (cond (p k) (counted b (k + 1) (f k)) b)
  counts_next k b so = by_test (p k) (λ e. rw e (solved_counts k b so e)) (λ e. rw e (refused_counts k b so e))

-- Answers that agree have one sum.
pub summed_same : (k : ℕ) (p q : ℕ → Bool) (f g : ℕ → ℕ) (tables total day : ℕ) → ((j : ℕ) → j < k → p j ≡ q j) → ((j : ℕ) → j < k → f j ≡ g j)
    → Summed k p f tables total day → Summed k q g tables total day
summed_same k p q f g tables total day pq fg s =
    record {
      solved_are = s.solved_are ∙ sum_ext k _ _ (λ j l. ap (λ (b : Bool). only b 1) (pq j l));
      total_is = s.total_is ∙ sum_ext k _ _ (λ j l. ap (λ (b : Bool). only b (f j)) (pq j l) ∙ ap (only (q j)) (fg j l));
      none = λ z j l. sym (pq j l) ∙ s.none z j l;
      some = λ i d. same i (s.some i d);
    }
  where
    same : (i : ℕ) → FirstLeast k p f i → FirstLeast k q g i
    same i old =
        let inside = old.inside in
        record {
          inside = inside;
          is_solved = sym (pq i inside) ∙ old.is_solved;
          least = λ j l e. omega (arith, old.least j l (pq j l ∙ e), fg i inside, fg j l);
          first = λ j l e. omega (arith, old.first j l (pq j (omega arith) ∙ e), fg i inside, fg j (omega arith));
        }
