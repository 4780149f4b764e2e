-- `do_fall` meets its contract: the test of each start.
use Rattle.std.proofs.Common.{◌≡◌, refl, sym, ap, subst, ◌∙◌, ℕ, zero, suc, ◌+◌, ◌<◌, Bool, true, false, ◌||◌, List, length, get_or, ltb, zero-add, arith, rules, tests}
use Rattle.std.specs.Bool.{MatchBool}
use Rattle.std.specs.List.{AllWithin, HoldsAt, range_with_len}
use Rattle.std.proofs.lemmas.Iterator.{cases_from_any, YieldsList-from_range}
use Rattle.std.proofs.lemmas.List.FromFn.{length-range_with_len, get_or-range_with_len}
use Rattle.rows.proofs.Sums.{by_equal}
use Rattle.days.specs.Month.{starts_fall}
use Rattle.month.proofs.do_fall.Goals as goal

module _ (starts : List ℕ) (end : ℕ) where
  -- The start at place k is above the next.
  abbrev falls : ℕ → Bool
  falls k = ltb (get_or starts (k + 1) end) (get_or starts k end)

  -- One falls,
  some_falls : (m k : ℕ) → k < m → falls k ≡ true → starts_fall starts end m ≡ true
  unfolding starts_fall
  some_falls zero k l e = absurd (omega arith)
  some_falls (suc m) k l e =
      by_equal k m
      (λ same. ap (λ b. starts_fall starts end m || b) (sym (ap falls same) ∙ e) ∙ or_true (starts_fall starts end m))
      (λ other. ap (λ b. b || falls m) (some_falls m k (omega arith) e))
    where
      or_true : (b : Bool) → b || true ≡ true
      or_true true = refl
      or_true false = refl

  -- or none does.
  none_falls : (m : ℕ) → ((k : ℕ) → k < m → falls k ≡ false) → starts_fall starts end m ≡ false
  unfolding starts_fall
  none_falls zero none = refl
  none_falls (suc m) none = rw (none_falls m (λ k l. none k (omega arith)), none m (omega arith))

  told_by_any : (told : Bool)
      → MatchBool told ((k : ℕ) × (k < length (range_with_len 0 (length starts))) × HoldsAt (λ k. falls k ≡ true) (range_with_len 0 (length starts)) k) (AllWithin (λ k. falls k ≡ false) (range_with_len 0 (length starts)) 0 (length (range_with_len 0 (length starts))))
      → told ≡ starts_fall starts end (length starts)
  told_by_any true some =
      let below : some.0 < length starts = omega (arith, some.1, length-range_with_len 0 (length starts)) in
      sym (some_falls (length starts) some.0 below (subst (λ q. falls q ≡ true) (get_or-range_with_len 0 (length starts) some.0 0 below ∙ zero-add some.0) (some.2 0)))
  told_by_any false none =
      sym
      (none_falls (length starts)
      (λ k l.
      subst (λ q. falls q ≡ false) (get_or-range_with_len 0 (length starts) k 0 l ∙ zero-add k) (none k 0 (omega arith) (omega (arith, length-range_with_len 0 (length starts))))))

pub returns : goal.returns
returns c =
    let starts = c.args.starts.now in
    let end = c.args.end in
    told_by_any starts end _
    (cases_from_any _ _ _ (λ k. falls starts end k ≡ true) (λ k. falls starts end k ≡ false) c.any.ensures.ran
    (YieldsList-from_range 0 _ _ refl (omega arith)) (λ x q k. search (rules, tests)) (λ x q k. search (rules, tests)))
