-- Bytes without a separator, and bytes that begin with others.
use Prim.Native.Nat.{ℕ, suc, ◌+◌, ◌<◌, ◌≤◌}
use mathlib.Core.Path.{◌≡◌, refl, sym, ap, ◌∙◌}
use mathlib.Core.Bool.{Bool, true, false, cond, not, true≢false}
use mathlib.Core.List.{List, [], ◌∷◌, ◌++◌}
use native.Mathlib.Nat.{add-zero}
use native.Mathlib.Omega.{arith}
use lib.Dec.{eqb}
use lib.ListN.{length, take, drop, length-append}
use borrow.Author.Tests.{eq-eqb, ne_eqb, eqb-true, leb-true}
use Rattle.rows.proofs.Sums.{both_true}
use Rattle.scan.specs.Parts.{run, up_to, begins_with}
use Rattle.scan.specs.Numbers.{is_digit, all_digits}

-- The bytes have no separator: all of them stand before the first.
abbrev pub Without : (sep : ℕ) → List ℕ → Type 0
Without sep xs = up_to sep xs ≡ length xs

-- A byte more, by whether it is the separator.
append_by : (t : Bool) (u l w v : ℕ) → (u ≡ l → w ≡ l + v) → cond (not t) (suc u) 0 ≡ suc l → cond (not t) (suc w) 0 ≡ suc l + v
append_by true u l w v more e = absurd (omega arith)
append_by false u l w v more e = omega (arith, more (omega arith))

-- Behind bytes without a separator the search goes on.
pub up_to_append : (sep : ℕ) (xs ys : List ℕ) → Without sep xs → up_to sep (xs ++ ys) ≡ length xs + up_to sep ys
unfolding run
up_to_append sep [] ys e = omega arith
up_to_append sep (x ∷ xs) ys e = append_by (eqb x sep) (up_to sep xs) (length xs) (up_to sep (xs ++ ys)) (up_to sep ys) (up_to_append sep xs ys) e

-- Neither of two has a separator, nor do they together.
pub without_append : (sep : ℕ) (xs ys : List ℕ) → Without sep xs → Without sep ys → Without sep (xs ++ ys)
without_append sep xs ys a b = omega (arith, up_to_append sep xs ys a, length-append xs ys)

-- The separator that follows is the first.
pub up_to_found : (sep : ℕ) (xs rest : List ℕ) → Without sep xs → up_to sep (xs ++ (sep ∷ rest)) ≡ length xs
unfolding run
up_to_found sep xs rest e = up_to_append sep xs (sep ∷ rest) e ∙ rw (eq-eqb sep sep refl) (add-zero (length xs))

-- A digit is no byte below the digits.
digit_without : (sep b : ℕ) → sep < 48 → is_digit b ≡ true → eqb b sep ≡ false
unfolding is_digit
digit_without sep b h e = let low : 48 ≤ b = leb-true _ _ (both_true _ _ e).0 in ne_eqb b sep (λ same. omega arith)

-- Digits have no separator that stands below them.
pub digits_without : (sep : ℕ) (xs : List ℕ) → sep < 48 → all_digits xs ≡ true → Without sep xs
unfolding run all_digits
digits_without sep [] h e = refl
digits_without sep (x ∷ xs) h e =
    let (digit, others) = both_true (is_digit x) (all_digits xs) e in
    rw (digit_without sep x h digit) (ap suc (digits_without sep xs h others))

-- Bytes begin with those that stand in front of them,
pub begins_front : (front rest : List ℕ) → begins_with front (front ++ rest) ≡ true
unfolding begins_with
begins_front [] rest = refl
begins_front (b ∷ front) rest = rw (eq-eqb b b refl) (begins_front front rest)

-- bytes that begin with others are no fewer,
pub begins_length : (front xs : List ℕ) → begins_with front xs ≡ true → length front ≤ length xs
unfolding begins_with
begins_length [] xs e = omega arith
begins_length (b ∷ front) [] e = absurd (true≢false (sym e))
begins_length (b ∷ front) (x ∷ xs) e = omega (arith, begins_length front xs (both_true (eqb x b) (begins_with front xs) e).1)

-- and they are those and the rest.
pub begins_split : (front xs : List ℕ) → begins_with front xs ≡ true → xs ≡ front ++ drop (length front) xs
unfolding begins_with
begins_split [] xs e = refl
begins_split (b ∷ front) [] e = absurd (true≢false (sym e))
begins_split (b ∷ front) (x ∷ xs) e =
    let (first, others) = both_true (eqb x b) (begins_with front xs) e in
    rw (← eqb-true x b first, ← begins_split front xs others) refl

-- Bytes up to a separator, the separator, and the bytes behind it.
found_by : (t : Bool) (x sep u : ℕ) (xs : List ℕ) → (t ≡ true → x ≡ sep) → (u < length xs → xs ≡ take u xs ++ (sep ∷ drop (suc u) xs)) → cond (not t) (suc u) 0 < suc (length xs)
    → x ∷ xs ≡ take (cond (not t) (suc u) 0) (x ∷ xs) ++ (sep ∷ drop (suc (cond (not t) (suc u) 0)) (x ∷ xs))
found_by true x sep u xs same more h = ap (λ (b : ℕ). b ∷ xs) (same refl)
found_by false x sep u xs same more h = ap (λ (l : List ℕ). x ∷ l) (more (omega arith))

-- Where there is a separator.
pub up_to_split : (sep : ℕ) (xs : List ℕ) → up_to sep xs < length xs → xs ≡ take (up_to sep xs) xs ++ (sep ∷ drop (suc (up_to sep xs)) xs)
unfolding run
up_to_split sep [] h = absurd (omega arith)
up_to_split sep (x ∷ xs) h = found_by (eqb x sep) x sep (up_to sep xs) xs (eqb-true x sep) (up_to_split sep xs) h
