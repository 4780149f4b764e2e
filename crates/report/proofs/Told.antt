-- What was printed tells by its first byte whether it is a refusal.
use native.Mathlib.Omega.{arith}
use Prim.Native.Nat.{ℕ, ◌<◌}
use mathlib.Core.Path.{◌≡◌, refl}
use mathlib.Core.List.{List, [], ◌∷◌}
use mathlib.Core.Bool.{true, false}
use lib.ListN.{length}
use Rattle.table.specs.declared.Name.{Name}
use Rattle.report.specs.declared.Summary.{Summary}
use Rattle.report.specs.Printed.{is_refusal, number_lines, solved_text, refused_text}

-- Nothing printed is no refusal.
pub nothing_told : (text : List ℕ) → length text < 1 → false ≡ is_refusal text
nothing_told [] short = refl
nothing_told (byte ∷ rest) short = absurd (omega (arith, short))

-- The lines of a refusal are one.
pub refused_told : (name : Name) (place : ℕ) → is_refusal (refused_text name place) ≡ true
unfolding refused_text
refused_told name place = refl

-- The lines of a solved table are none.
pub solved_told : (r : Summary) (side flow : List ℕ) → is_refusal (solved_text r side flow) ≡ false
unfolding solved_text number_lines
solved_told r side flow = refl
