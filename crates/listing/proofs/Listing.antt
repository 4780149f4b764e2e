-- Laws of lists of numbers that pass a test, and of rows that are filled from the front.
use Prim.Native.Nat.{ℕ, zero, suc, ◌+◌, ◌≤◌, ◌<◌}
use mathlib.Core.Path.{◌≡◌, refl, ap, ◌∙◌}
use mathlib.Core.Logic.{⊎_elim}
use mathlib.Core.Bool.{Bool, true, false, cond}
use mathlib.Core.List.{List, [], ◌∷◌, ◌++◌, append_assoc}
use native.Mathlib.Omega.{arith}
use native.Mathlib.Nat.{eq-or-lt_of_le}
use lib.ListN.{length, get_or, set, take, drop, length-set, length-append}
use lib.Seq.{drop-cons, set_at, take-suc, length-take-le}
use native.Mathlib.Numerals.{add-one}
use Rattle.listing.specs.Passing.{passing, filled_with}

-- ---- rows filled from the front

-- One number more.
fill_next : (front : List ℕ) (x : ℕ) (row : List ℕ) → length front < length row → set (filled_with front row) (length front) x ≡ filled_with (front ++ (x ∷ [])) row
fill_next front x row l =
    let longer : length (front ++ (x ∷ [])) ≡ suc (length front) = omega (arith, length-append front (x ∷ [])) in
    rw (drop-cons row (length front) 0 l, set_at front (get_or row (length front) 0) (drop (suc (length front)) row) x (length front) refl, longer, append_assoc)

-- A copy of the first numbers of another row, one number more.
pub copy_next : (from row : List ℕ) (i : ℕ) → i < length from → length from ≤ length row
    → set (take i from ++ drop i row) i (get_or from i 0) ≡ take (i + 1) from ++ drop (i + 1) row
copy_next from row i l room =
    let here : length (take i from) ≡ i = length-take-le i from (omega arith) in
    let below : i < length row = omega arith in
    rw (drop-cons row i 0 below, set_at (take i from) (get_or row i 0) (drop (suc i) row) (get_or from i 0) i here, add-one i, take-suc from i 0 l, append_assoc)

-- ---- numbers that pass

module _ (test : ℕ → Bool) where
  -- A number that passes comes last,
  pub passing_yes : (k : ℕ) → test k ≡ true → passing test (suc k) ≡ passing test k ++ (k ∷ [])
  unfolding passing
  passing_yes k e = rw e

  -- and another is left out.
  pub passing_no : (k : ℕ) → test k ≡ false → passing test (suc k) ≡ passing test k
  unfolding passing
  passing_no k e = rw e

  -- One more passes.
  pub count_next : (k : ℕ) → test k ≡ true → length (passing test (suc k)) ≡ length (passing test k) + 1
  count_next k e = rw (passing_yes k e, length-append)

  -- No more pass than there are,
  pub passing_few : (n : ℕ) → length (passing test n) ≤ n
  unfolding passing
  passing_few zero = omega arith
  passing_few (suc k) = go (test k) (passing_few k)
    where
      go : (b : Bool) → length (passing test k) ≤ k → length (cond b (passing test k ++ (k ∷ [])) (passing test k)) ≤ suc k
      go true few = omega (arith, length-append (passing test k) (k ∷ []))
      go false few = omega arith

  -- and one fewer where 0 does not.
  pub passing_fewer : test 0 ≡ false → (n : ℕ) → length (passing test (suc n)) ≤ n
  unfolding passing
  passing_fewer none zero = rw none (omega arith)
  passing_fewer none (suc k) = go (test (suc k)) (passing_fewer none k)
    where
      go : (b : Bool) → length (passing test (suc k)) ≤ k → length (cond b (passing test (suc k) ++ (suc k ∷ [])) (passing test (suc k))) ≤ suc k
      go true few = omega (arith, length-append (passing test (suc k)) (suc k ∷ []))
      go false few = omega arith

  -- Of more numbers no fewer pass.
  pub passing_rises : (k n : ℕ) → k ≤ n → length (passing test k) ≤ length (passing test n)
  unfolding passing
  passing_rises k zero h = let e : k ≡ 0 = omega arith in rw e (omega arith)
  passing_rises k (suc n) h = ⊎_elim (λ e. rw e (omega arith)) (λ l. go (test n) (passing_rises k n (omega arith))) (eq-or-lt_of_le h)
    where
      go : (b : Bool) → length (passing test k) ≤ length (passing test n) → length (passing test k) ≤ length (cond b (passing test n ++ (n ∷ [])) (passing test n))
      go true few = omega (arith, length-append (passing test n) (n ∷ []))
      go false few = few

  -- ---- counting and listing them, number by number; the code's next number is `next`

  -- One that passes is counted,
  pub counted_yes : (k next count after : ℕ) → next ≡ suc k → test k ≡ true → count ≡ length (passing test k) → after ≡ count + 1 → after ≡ length (passing test next)
  counted_yes k next count after on e counted more = rw on (omega (arith, count_next k e))

  -- and another is not.
  pub counted_no : (k next count after : ℕ) → next ≡ suc k → test k ≡ false → count ≡ length (passing test k) → after ≡ count → after ≡ length (passing test next)
  counted_no k next count after on e counted same = rw (on, passing_no k e) (same ∙ counted)

  -- The numbers below k that pass stand in the list, and are counted.
  pub record Gathered (k count : ℕ) (list old : List ℕ) : Type 0 where
    pub counted : count ≡ length (passing test k)
    pub long : length list ≡ length old
    pub filled : list ≡ filled_with (passing test k) old

  -- Before the first that passes.
  pub gathered_none : (k : ℕ) (old : List ℕ) → passing test k ≡ [] → Gathered k 0 old old
  gathered_none k old none = record { counted = rw none; long = refl; filled = rw none }

  -- There is room for one that passes below n.
  pub gathered_room : (k n count : ℕ) (list old : List ℕ) → Gathered k count list old → test k ≡ true → k < n → length (passing test n) ≤ length old → count < length list
  gathered_room k n count list old at e l room = omega (arith, at.counted, at.long, count_next k e, passing_rises (suc k) n l)

  -- One that passes,
  pub gathered_yes : (k next count after x : ℕ) (list new old : List ℕ) → next ≡ suc k → Gathered k count list old → test k ≡ true → count < length list
      → x ≡ k → new ≡ set list count x → after ≡ count + 1 → Gathered next after new old
  gathered_yes k next count after x list new old on at e room same stored more =
      record {
        counted = counted_yes k next count after on e at.counted more;
        long = ap length stored ∙ simp length-set at.long;
        filled =
            stored ∙ rw (at.filled, at.counted, same, on, passing_yes k e) (fill_next (passing test k) k old (omega (arith, at.counted, at.long)));
      }

  -- and another.
  pub gathered_no : (k next count after : ℕ) (list new old : List ℕ) → next ≡ suc k → Gathered k count list old → test k ≡ false
      → new ≡ list → after ≡ count → Gathered next after new old
  gathered_no k next count after list new old on at e stays same =
      record {
        counted = counted_no k next count after on e at.counted same;
        long = ap length stays ∙ at.long;
        filled = rw (on, passing_no k e) (stays ∙ at.filled);
      }
