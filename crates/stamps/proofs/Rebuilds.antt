-- After d rebuilds an answer is stale by d, and with the two stamps exchanged it is ahead by d.
use Rattle.std.proofs.Common.{◌≡◌, ℕ, zero, suc, ◌+◌, ◌-◌, ◌%◌, ◌^◌, ◌<◌, ◌≤◌, Bool, true, false, cond, eqb, ltb, refl, ap, ◌∙◌, arith, ltb-false, ltb-true, le-ltb, lt-ltb, ne_eqb, eqb-true}
use borrow.Author.Tests.{eqb-false}
use Rattle.stamps.specs.Stamp.{behind, relation_at, relation_number, distance_in, number_for, distance_for, Compared, rebuilt, Means}
use Rattle.stamps.specs.declared.Relation.{Relation}
use Rattle.stamps.specs.declared.Relation.TheVariants.{Same, Stale, Unordered, Ahead}

-- d rebuilds add d, round 2^32.
rebuilt_sum : (d stamp : ℕ) → stamp < 2 ^ 32 → rebuilt d stamp ≡ (stamp + d) % 2 ^ 32
unfolding rebuilt
rebuilt_sum zero stamp small = omega arith
rebuilt_sum (suc d) stamp small = omega (arith, rebuilt_sum d stamp small)

-- Two different stamps: the difference the other way round is the rest of 2^32.
pub other_way : (table answer : ℕ) → table < 2 ^ 32 → answer < 2 ^ 32 → (behind table answer ≡ 0 → ⊥) → behind answer table ≡ 2 ^ 32 - behind table answer
unfolding behind
other_way table answer p q apart = let some : 1 ≤ (table + 2 ^ 32 - answer) % 2 ^ 32 = omega arith in omega arith

module _ (d stamp : ℕ) (small : stamp < 2 ^ 32) (some : 1 ≤ d) (few : d < 2 ^ 31) where
  -- The table's stamp is d further,
  further : behind (rebuilt d stamp) stamp ≡ d
  unfolding behind
  further = omega (arith, rebuilt_sum d stamp small)

  -- and the answer's, with the two exchanged, 2^32 - d.
  nearer : behind stamp (rebuilt d stamp) ≡ 2 ^ 32 - d
  unfolding behind
  nearer = omega (arith, rebuilt_sum d stamp small)

  -- After d rebuilds of the table its answer is stale by d.
  pub stale_after : relation_at (behind (rebuilt d stamp) stamp) ≡ Stale d
  unfolding relation_at
  stale_after = rw (further, ne_eqb d 0 (omega arith), lt-ltb d (2 ^ 31) few)

  -- With the two stamps exchanged it is ahead by d.
  pub ahead_after : relation_at (behind stamp (rebuilt d stamp)) ≡ Ahead d
  unfolding relation_at
  ahead_after =
      let back : 2 ^ 32 - (2 ^ 32 - d) ≡ d = omega arith in
      rw (nearer, ne_eqb (2 ^ 32 - d) 0 (omega arith), le-ltb (2 ^ 32 - d) (2 ^ 31) (omega arith), ne_eqb (2 ^ 32 - d) (2 ^ 31) (omega arith)) (ap Ahead back)

-- ---- the numbers

-- The relation that x says has the papers' number and distance.
said_numbers : (x : ℕ) → (relation_number (relation_at x) ≡ number_for x) × (distance_in (relation_at x) ≡ distance_for x)
unfolding relation_at number_for distance_for
said_numbers x = go (eqb x 0) (ltb x (2 ^ 31)) (eqb x (2 ^ 31)) refl refl
  where
    said : (a b c : Bool) → Relation
    said a b c = cond a Same (cond b (Stale x) (cond c Unordered (Ahead (2 ^ 32 - x))))

    go : (a b c : Bool) → eqb x 0 ≡ a → ltb x (2 ^ 31) ≡ b
        → (relation_number (said a b c) ≡ cond a 0 (cond b 9 (cond c 10 11))) × (distance_in (said a b c) ≡ cond b x (cond c 0 (2 ^ 32 - x)))
    go true true c e f = (refl, omega (arith, eqb-true x 0 e))
    go true false c e f = absurd (omega (arith, eqb-true x 0 e, ltb-false x (2 ^ 31) f))
    go false true c e f = (refl, refl)
    go false false true e f = (refl, refl)
    go false false false e f = (refl, refl)

-- So whoever says what x says keeps the promise.
pub compared_so : (table answer : ℕ) (r : Relation) → r ≡ relation_at (behind table answer) → Compared table answer r
compared_so table answer r e =
    let (number, distance) = said_numbers (behind table answer) in
    record { exact = e; number = ap relation_number e ∙ number; distance = ap distance_in e ∙ distance }

-- ---- both ways

module _ (table answer : ℕ) (small : table < 2 ^ 32) (also : answer < 2 ^ 32) where
  -- What the comparison says is so,
  pub compared_means : Means table answer (relation_at (behind table answer))
  unfolding relation_at behind
  compared_means = go (eqb x 0) (ltb x (2 ^ 31)) (eqb x (2 ^ 31)) refl refl refl
    where
      x : ℕ
      x = (table + 2 ^ 32 - answer) % 2 ^ 32

      go : (a b c : Bool) → eqb x 0 ≡ a → ltb x (2 ^ 31) ≡ b → eqb x (2 ^ 31) ≡ c
          → Means table answer (cond a Same (cond b (Stale x) (cond c Unordered (Ahead (2 ^ 32 - x)))))
      go true b c e f g = omega (arith, eqb-true x 0 e)
      go false true c e f g =
          (omega (arith, eqb-false x 0 e), ltb-true x (2 ^ 31) f, omega (arith, rebuilt_sum x answer also))
      go false false true e f g = omega (arith, eqb-true x (2 ^ 31) g, rebuilt_sum (2 ^ 31) answer also)
      go false false false e f g = (
        omega arith,
        omega (arith, ltb-false x (2 ^ 31) f, eqb-false x (2 ^ 31) g),
        omega (arith, ltb-false x (2 ^ 31) f, rebuilt_sum (2 ^ 32 - x) table small),
      )

  -- and what is so it says.
  pub means_compared : (r : Relation) → Means table answer r → relation_at (behind table answer) ≡ r
  unfolding relation_at behind
  means_compared Same e = rw e (same_none answer)
    where
      same_none : (y : ℕ) → relation_at ((y + 2 ^ 32 - y) % 2 ^ 32) ≡ Same
      same_none y = let none : (y + 2 ^ 32 - y) % 2 ^ 32 ≡ 0 = omega arith in rw none
  means_compared (Stale d) (some, few, e) = ap (λ (y : ℕ). relation_at (behind y answer)) e ∙ stale_after d answer also some few
  means_compared Unordered e =
      let half : (table + 2 ^ 32 - answer) % 2 ^ 32 ≡ 2 ^ 31 = omega (arith, rebuilt_sum (2 ^ 31) answer also) in rw half
  means_compared (Ahead d) (some, few, e) = ap (λ (y : ℕ). relation_at (behind table y)) e ∙ ahead_after d table small some few
