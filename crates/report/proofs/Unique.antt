-- What the promises leave open: nothing. Two results that meet one promise are equal, the written rows too.
use Prim.Native.Nat.{ℕ}
use mathlib.Core.Path.{◌≡◌}
use mathlib.Core.List.{List}
use Rattle.table.specs.declared.Name.{Name}
use Rattle.pen.specs.Wrote.{Wrote}
use Rattle.pen.proofs.Writing.{wrote_unique}
use Rattle.report.specs.declared.Summary.{Summary}
use Rattle.report.specs.Printed.{solved_text, refused_text}

-- The lines of a solved table.
pub write_solved_unique : (row : List ℕ) (r : Summary) (side flow after after_too : List ℕ) (behind behind_too : ℕ)
    → Wrote row 0 (solved_text r side flow) after behind → Wrote row 0 (solved_text r side flow) after_too behind_too
    → (after ≡ after_too) × (behind ≡ behind_too)
write_solved_unique row r side flow after after_too behind behind_too w v = wrote_unique w v

-- The lines of a refusal.
pub write_refused_unique : (row : List ℕ) (name : Name) (place : ℕ) (after after_too : List ℕ) (behind behind_too : ℕ)
    → Wrote row 0 (refused_text name place) after behind → Wrote row 0 (refused_text name place) after_too behind_too
    → (after ≡ after_too) × (behind ≡ behind_too)
write_refused_unique row name place after after_too behind behind_too w v = wrote_unique w v
