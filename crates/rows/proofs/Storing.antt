-- Numbers stored into a row one after the other: the row afterwards.
use Prim.Native.Nat.{ℕ, suc, ◌+◌, ◌≤◌}
use native.Mathlib.Omega.{arith}
use mathlib.Core.Path.{◌≡◌, ap, ◌∙◌}
use mathlib.Core.List.{List, [], ◌∷◌, ◌++◌, append-nil}
use lib.ListN.{length, set, drop, drop_of_length-le}
use lib.Seq.{sets, sets-eq}

-- One list stored after the other.
pub sets_append : (row xs ys : List ℕ) (at : ℕ) → sets row at (xs ++ ys) ≡ sets (sets row at xs) (at + length xs) ys
sets_append row [] ys at =
    let same : at ≡ at + 0 = omega arith in
    ap (λ i. sets row i ys) same
sets_append row (x ∷ xs) ys at =
    let same : suc at + length xs ≡ at + suc (length xs) = omega arith in
    sets_append (set row at x) xs ys (suc at) ∙ ap (λ i. sets (sets (set row at x) (suc at) xs) i ys) same

-- A list stored from the front: later places stay.
pub sets_front : (row xs : List ℕ) → length xs ≤ length row → sets row 0 xs ≡ xs ++ drop (length xs) row
sets_front row xs l =
    let same : 0 + length xs ≡ length xs = omega arith in
    sets-eq xs row 0 (omega arith) ∙ ap (λ i. xs ++ drop i row) same

-- A whole row stored is that row.
pub sets_all : (row xs : List ℕ) → length xs ≡ length row → sets row 0 xs ≡ xs
sets_all row xs e =
    let within : length row ≤ length xs = omega arith in
    sets_front row xs (omega arith) ∙ ap (λ ys. xs ++ ys) (drop_of_length-le row within) ∙ append-nil xs
