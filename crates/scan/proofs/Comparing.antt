-- What the library's comparisons of bytes say in the words of the definitions.
use Prim.Native.Nat.{ℕ}
use mathlib.Core.Path.{◌≡◌, refl, sym, ap, ap₂, ◌∙◌}
use mathlib.Core.Bool.{Bool, true, false, ◌&&◌}
use mathlib.Core.List.{List, [], ◌∷◌}
use native.Mathlib.Omega.{arith}
use lib.Dec.{eqb}
use lib.ListN.{length}
use Rattle.std.specs.Cmp.Lexicographic.{pointwise}
use Rattle.std.specs.List.{starts_with, list_all}
use Rattle.scan.specs.Parts.{begins_with, is_these}
use Rattle.scan.specs.Numbers.{is_digit, all_digits}
use Rattle.scan.specs.Fields.{is_letter}

-- Numbers are compared in either order.
eqb_turned : (a b : ℕ) → eqb a b ≡ eqb b a
eqb_turned a b = grind arith

-- The bytes begin with these where these are found at their front.
pub begins_is : (these bytes : List ℕ) → starts_with eqb bytes these ≡ begins_with these bytes
unfolding begins_with
begins_is [] bytes = refl
begins_is (t ∷ these) [] = refl
begins_is (t ∷ these) (b ∷ bytes) = ap₂ (λ (x y : Bool). x && y) (eqb_turned t b) (begins_is these bytes)

-- Three facts in another order.
turned : (a b c : Bool) → (a && (b && c)) ≡ (b && (a && c))
turned true b c = refl
turned false true c = refl
turned false false c = refl

-- The bytes are these where they are found equal.
pub these_is : (these bytes : List ℕ) → pointwise eqb bytes these ≡ is_these these bytes
unfolding is_these begins_with
these_is [] [] = refl
these_is [] (b ∷ bytes) = grind arith
these_is (t ∷ these) [] = grind arith
these_is (t ∷ these) (b ∷ bytes) =
    let lengths : eqb (length (b ∷ bytes)) (length (t ∷ these)) ≡ eqb (length bytes) (length these) = grind arith in
    ap (λ (x : Bool). eqb b t && x) (these_is these bytes) ∙ turned (eqb b t) (eqb (length bytes) (length these)) (begins_with these bytes) ∙ ap (λ (x : Bool). x && (eqb b t && begins_with these bytes)) (sym lengths)

-- A field is a letter where it is found equal to the row of that letter.
pub letter_is : (letter : ℕ) (field : List ℕ) → pointwise eqb field (letter ∷ []) ≡ is_letter letter field
unfolding is_letter
letter_is letter [] = refl
letter_is letter (b ∷ []) = grind arith
letter_is letter (b ∷ (d ∷ rest)) = grind arith

-- The bytes are all digits where each is one.
pub digits_is : (field : List ℕ) → list_all is_digit field ≡ all_digits field
unfolding all_digits
digits_is [] = refl
digits_is (b ∷ rest) = ap (λ (x : Bool). is_digit b && x) (digits_is rest)
