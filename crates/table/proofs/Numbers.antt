-- The numbers and the letters of the names of refusal.
use Prim.Native.Nat.{ℕ, zero, suc, ◌-◌, ◌≤◌}
use mathlib.Core.Path.{◌≡◌, refl}
use mathlib.Core.Bool.{Bool, true, ◌&&◌}
use mathlib.Core.List.{List, [], ◌∷◌}
use native.Mathlib.Omega.{arith}
use borrow.Author.Tests.{leb-true}
use lib.Dec.{leb}
use lib.ListN.{length, get_or}
use Rattle.rows.proofs.Sums.{both_true}
use Rattle.table.specs.Refusals.{number_of, names, name_text}
use Rattle.table.specs.declared.Name.{Name}
use Rattle.table.specs.declared.Name.TheVariants.{Nodes, Rows, Arcs, Ends, Room, Node, Loop, Capacity, Stale, Unordered, Ahead, Place, Line, Count, Long, Solution, Many, Starts, Minimum, Impossible, Bounded, Lower, NotMax}

-- They are 1 to 23.
pub number_known : (name : Name) → (1 ≤ number_of name) × (number_of name ≤ 23)
number_known Nodes = omega arith
number_known Rows = omega arith
number_known Arcs = omega arith
number_known Ends = omega arith
number_known Room = omega arith
number_known Node = omega arith
number_known Loop = omega arith
number_known Capacity = omega arith
number_known Stale = omega arith
number_known Unordered = omega arith
number_known Ahead = omega arith
number_known Place = omega arith
number_known Line = omega arith
number_known Count = omega arith
number_known Long = omega arith
number_known Solution = omega arith
number_known Many = omega arith
number_known Starts = omega arith
number_known Minimum = omega arith
number_known Impossible = omega arith
number_known Bounded = omega arith
number_known Lower = omega arith
number_known NotMax = omega arith

-- No name has the number 0.
pub number_positive : (name : Name) → number_of name ≡ 0 → ⊥
number_positive name e = omega (arith, number_known name)

-- No word of a list is longer than ten letters.
unfoldable all_short : List (List ℕ) → Bool
all_short [] = true
all_short (word ∷ rest) = leb (length word) 10 && all_short rest

-- So none of them is.
short_at : (words : List (List ℕ)) (k : ℕ) → all_short words ≡ true → length (get_or words k []) ≤ 10
unfolding all_short
short_at [] k e = omega arith
short_at (word ∷ rest) zero e = leb-true (length word) 10 (both_true (leb (length word) 10) (all_short rest) e).0
short_at (word ∷ rest) (suc k) e = short_at rest k (both_true (leb (length word) 10) (all_short rest) e).1

-- No name has more than ten letters.
pub name_short : (name : Name) → length (name_text name) ≤ 10
unfolding name_text names all_short
name_short name = short_at names (number_of name - 1) refl
