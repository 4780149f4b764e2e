-- A row that has no number above 0.
use Prim.Native.Nat.{ℕ, zero, suc}
use mathlib.Core.Path.{◌≡◌, refl}
use mathlib.Core.Bool.{true}
use mathlib.Core.List.{List, [], ◌∷◌}
use borrow.Author.Tests.{eqb-true}
use lib.Dec.{eqb}
use Rattle.rows.specs.Row.{at_place}
use Rattle.rows.proofs.Sums.{both_true}
use Rattle.minimums.specs.Checks.{all_zero}

-- A row whose numbers are all 0 holds 0 at every place.
pub all_zero_at : (row : List ℕ) → all_zero row ≡ true → (k : ℕ) → at_place row k ≡ 0
unfolding all_zero
all_zero_at [] e k = refl
all_zero_at (x ∷ xs) e zero = eqb-true x 0 (both_true (eqb x 0) (all_zero xs) e).0
all_zero_at (x ∷ xs) e (suc k) = all_zero_at xs (both_true (eqb x 0) (all_zero xs) e).1 k
