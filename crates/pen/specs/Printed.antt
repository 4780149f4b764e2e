-- Numbers as they are written: digits in the decimal system, and one blank between two numbers.
use Rattle.std.specs.Prelude.{ℕ, zero, suc, ◌+◌, ◌/◌, ◌%◌, List, [], ◌∷◌, ◌++◌, Bool, true, cond, ltb}
use Prim.Native.Char.{code}
use Rattle.table.specs.Ascii.{bytes}

-- The digits of a number in the decimal system. `most` bounds how many there are.
unfoldable pub digits_of : (most n : ℕ) → List ℕ
digits_of zero n = []
digits_of (suc most) n = cond (ltb n 10) ((code "0" + n) ∷ []) (digits_of most (n / 10) ++ ((code "0" + n % 10) ∷ []))

-- A number as it is printed: one of 64 bits has at most 20 digits.
abbrev pub printed : ℕ → List ℕ
printed n = digits_of 20 n

-- A number in a list: the first, or behind others and one blank.
abbrev pub further : (some : Bool) → ℕ → List ℕ
further some n = cond some (bytes " ") [] ++ printed n

-- Numbers parted by one blank. `some` says whether others stand before them.
unfoldable pub spaced : (some : Bool) → List ℕ → List ℕ
spaced some [] = []
spaced some (n ∷ rest) = further some n ++ spaced true rest
