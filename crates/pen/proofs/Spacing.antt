-- Numbers parted by one blank, from a place on: the first, and the rest.
use Prim.Native.Nat.{ℕ, ◌+◌, ◌<◌, ◌≤◌}
use mathlib.Core.Path.{◌≡◌, refl}
use mathlib.Core.Bool.{Bool, true}
use mathlib.Core.List.{List, [], ◌++◌}
use native.Mathlib.Numerals.{add-one}
use lib.ListN.{length, get_or, drop, drop_of_length-le}
use lib.Seq.{drop-cons}
use Rattle.pen.specs.Printed.{further, spaced}

module _ (some : Bool) (xs : List ℕ) (i : ℕ) where
  -- From a place on: the number there, and those behind it,
  pub spaced_here : i < length xs → spaced some (drop i xs) ≡ further some (get_or xs i 0) ++ spaced true (drop (i + 1) xs)
  unfolding spaced
  spaced_here h = rw (add-one, drop-cons xs i 0 h) refl

  -- and past the end none.
  pub spaced_end : length xs ≤ i → spaced some (drop i xs) ≡ []
  unfolding spaced
  spaced_end h = rw (drop_of_length-le xs h) refl
