-- What is kept of each pair: the capacities of its arcs, and what amounts leave of them.
use Prim.Native.Nat.{ℕ, zero, suc, ◌+◌, ◌*◌, ◌-◌, ◌<◌, ◌≤◌}
use mathlib.Core.Path.{◌≡◌, refl, sym, ap, ap₂, ◌∙◌}
use mathlib.Core.Bool.{Bool, true, false}
use mathlib.Core.List.{List, [], ◌∷◌}
use native.Mathlib.Nat.{add-zero}
use native.Mathlib.Omega.{arith}
use lib.Dec.{eqb}
use lib.ListN.{length, set}
use lib.Seq.{get_or-set_same, get_or-set_other}
use borrow.Author.Tests.{eq-eqb, ne_eqb, eqb-true, eqb-false}
use Rattle.rows.specs.Row.{at_place}
use Rattle.rows.specs.Sum.{sum, only}
use Rattle.rows.proofs.Sums.{by_test, by_equal, only_true, only_false, only_le, only_of_zero, sum_ext, sum_zero, sum_bound}
use Rattle.amounts.specs.declared.Amount.{Amount}
use Rattle.sharing.specs.Full.{is_pair, sum_where, pair_sum}
use Rattle.pairs.specs.Places.{is_node, first_to, chain_of, Places, kept_at, room_at, Takes}
use Rattle.pairs.proofs.Chains.{node_is, node_none, pair_true, pair_false, pair_is, first_none, first_apart, leads_within}

-- The place of a pair is one of an arc.
pub place_within : {n : ℕ} {heads first next : List ℕ} {place : ℕ → ℕ → ℕ} → Places n heads first next place → (a b : ℕ) → place a b ≤ length heads
place_within {n} p a b = by_test (is_node n a)
    (λ e. let v = node_is n a e in omega (arith, leads_within p.falls (p.finds a b v), p.starts (chain_of a b)))
    (λ e. omega (arith, p.others a b (node_none n a e)))

-- ---- an amount

-- The sum of one amount.
pub sum_one : (test : Amount → Bool) (x : Amount) → sum_where test (x ∷ []) ≡ only (test x) x.flow
unfolding sum_where
sum_one test x = add-zero (only (test x) x.flow)

module _ (place : ℕ → ℕ → ℕ) (row : List ℕ) (x : Amount) where
  -- The amount of its own pair,
  own_sum : pair_sum (x ∷ []) x.tail x.head ≡ x.flow
  own_sum =
      sum_one (λ y. is_pair x.tail x.head y.tail y.head) x
      ∙ only_true (is_pair x.tail x.head x.tail x.head) x.flow (pair_true x.tail x.head)

  -- and of another.
  other_sum : (a b : ℕ) → ((x.tail ≡ a) × (x.head ≡ b) → ⊥) → pair_sum (x ∷ []) a b ≡ 0
  other_sum a b ne =
      sum_one (λ y. is_pair a b y.tail y.head) x ∙ only_false (is_pair a b x.tail x.head) x.flow (pair_false a b x.tail x.head ne)

  -- An amount of a pair that no arc has fits if it is 0.
  pub took_none : place x.tail x.head ≡ 0 → (fits : Bool) → fits ≡ eqb x.flow 0 → Takes place row (x ∷ []) fits row
  took_none none true e = λ a b.
      omega (arith, sum_one (λ y. is_pair a b y.tail y.head) x, ap (only (is_pair a b x.tail x.head)) (eqb-true x.flow 0 (sym e)), only_of_zero (is_pair a b x.tail x.head))
  took_none none false e = (x.tail, x.head, omega (arith, ap (kept_at row) none, own_sum, eqb-false x.flow 0 (sym e)))

  -- There is too little of its pair,
  pub took_little : (k : ℕ) → place x.tail x.head ≡ suc k → at_place row k < x.flow → (row' : List ℕ) → Takes place row (x ∷ []) false row'
  took_little k e h row' = (x.tail, x.head, omega (arith, ap (kept_at row) e, own_sum))

  -- or it is taken.
  pub took_one : ((a b c d j : ℕ) → place a b ≡ suc j → place c d ≡ suc j → (a ≡ c) × (b ≡ d))
      → (k : ℕ) → place x.tail x.head ≡ suc k → k < length row → x.flow ≤ at_place row k → Takes place row (x ∷ []) true (set row k (at_place row k - x.flow))
  took_one apart k e l h a b = by_place (place a b) refl
    where
      left : ℕ
      left = at_place row k - x.flow

      by_place : (p : ℕ) → place a b ≡ p → kept_at (set row k left) p + pair_sum (x ∷ []) a b ≡ kept_at row p
      by_place zero f = omega (arith, other_sum a b (λ both. let z = ap₂ place both.0 both.1 in omega arith))
      by_place (suc j) f =
          by_equal j k
          (λ same.
          let (p, q) = apart a b x.tail x.head k (f ∙ ap suc same) e in
          omega (
            arith,
            ap (at_place (set row k left)) same,
            ap (at_place row) same,
            get_or-set_same row k left 0 l,
            ap₂ (pair_sum (x ∷ [])) p q,
            own_sum,
          ))
          (λ other. omega (arith, get_or-set_other row k j left 0 other, other_sum a b (λ both. let z = ap₂ place both.0 both.1 in other (omega arith))))

-- ---- the capacities of the pairs

module _ (m : ℕ) (tail head capacity : ℕ → ℕ) where
  -- The place of a pair.
  abbrev place : (a b : ℕ) → ℕ
  place = first_to tail head m

  -- What a place holds after so many arcs.
  abbrev held_at : (k p : ℕ) → ℕ
  held_at k p = sum k (λ j. only (eqb (place (tail j) (head j)) p) (capacity j))

  -- An arc's pair has a place.
  pub own_place : (k : ℕ) → k < m → 1 ≤ place (tail k) (head k)
  own_place k l = by_place (place (tail k) (head k)) refl
    where
      by_place : (p : ℕ) → place (tail k) (head k) ≡ p → 1 ≤ p
      by_place zero e =
          absurd
          (let none = first_none tail head m (tail k) (head k) e k l in
          let z : ◌≡◌ {A = ℕ} 1 0 = ap (λ (t : Bool). only t 1) (sym (pair_true (tail k) (head k)) ∙ none) in
          omega arith)
      by_place (suc p) e = omega arith

  -- One arc more.
  pub held_more : (row : List ℕ) (k at : ℕ) → ((p : ℕ) → at_place row p ≡ held_at k (suc p)) → place (tail k) (head k) ≡ suc at → at < length row
      → (p : ℕ) → at_place (set row at (at_place row at + capacity k)) p ≡ held_at (suc k) (suc p)
  unfolding sum
  held_more row k at held e l p =
      by_equal p at
      (λ same.
      omega (
        arith,
        ap (at_place (set row at (at_place row at + capacity k))) same,
        get_or-set_same row at (at_place row at + capacity k) 0 l,
        ap (at_place row) same,
        held p,
        only_true (eqb (place (tail k) (head k)) (suc p)) (capacity k) (eq-eqb _ (suc p) (e ∙ ap suc (sym same))),
      ))
      (λ other.
      omega (
        arith,
        get_or-set_other row at p (at_place row at + capacity k) 0 other,
        held p,
        only_false (eqb (place (tail k) (head k)) (suc p)) (capacity k) (ne_eqb _ (suc p) (λ q. let z : suc at ≡ suc p = sym e ∙ q in other (omega arith))),
      ))

  -- No place holds more than 1,000,000 for each arc.
  pub held_most : ((k : ℕ) → k < m → capacity k ≤ 1000000) → (k p : ℕ) → k ≤ m → held_at k p ≤ k * 1000000
  held_most small k p h =
      sum_bound k 1000000 (λ j. only (eqb (place (tail j) (head j)) p) (capacity j))
      (λ j l. omega (arith, only_le (eqb (place (tail j) (head j)) p) (capacity j), small j (omega arith)))

  -- With all arcs it holds the capacities of its pair.
  pub held_all : (row : List ℕ) → ((p : ℕ) → at_place row p ≡ held_at m (suc p)) → (a b : ℕ) → room_at place row a b ≡ sum m (λ k. only (is_pair a b (tail k) (head k)) (capacity k))
  held_all row held a b = by_place (place a b) refl
    where
      same_test : (p : ℕ) → place a b ≡ suc p → (k : ℕ) → eqb (place (tail k) (head k)) (suc p) ≡ is_pair a b (tail k) (head k)
      same_test p e k = by_test (is_pair a b (tail k) (head k))
          (λ t. let (q, r) = pair_is a b (tail k) (head k) t in eq-eqb _ (suc p) (ap₂ place q r ∙ e) ∙ sym t)
          (λ t. ne_eqb _ (suc p) (λ f.
          let (q, r) = first_apart tail head m (tail k) (head k) a b p f e in
          let z : ◌≡◌ {A = ℕ} 1 0 = ap (λ (x : Bool). only x 1) (sym (pair_true a b) ∙ ap₂ (is_pair a b) (sym q) (sym r) ∙ t) in
          omega arith) ∙ sym t)

      by_place : (p : ℕ) → place a b ≡ p → kept_at row p ≡ sum m (λ k. only (is_pair a b (tail k) (head k)) (capacity k))
      by_place zero e = sym (sum_zero m _ (λ k l. only_false _ (capacity k) (first_none tail head m a b e k l)))
      by_place (suc p) e = held p ∙ sum_ext m _ _ (λ k l. ap (λ (t : Bool). only t (capacity k)) (same_test p e k))
