-- What the code asks of its rows, and what it finds in a text. Only contracts of private functions speak of it.
use Rattle.std.specs.Prelude.{ℕ, ◌≤◌, ◌≡◌, List, length, take, Result, Ok, Err, ⊤}
use Rattle.wording.specs.Lines.{Said, flows, nothing}
use Rattle.scan.specs.declared.Fault.{Fault}

-- At most 4,096 arcs, a head for each tail, and another row with a place for each.
pub record ArcsWith (tails heads row : List ℕ) : Type 0 where
  pub few : length tails ≤ 4096
  pub heads_long : length heads ≡ length tails
  pub room : length tails ≤ length row

-- What was found of what the lines say: all m flows, in the first places of a row, or the line that no solution text has there.
abbrev pub Finds : Said → Result ⊤ Fault → (m : ℕ) (row : List ℕ) → Type 0
Finds said (Ok all) m row = said ≡ flows (take m row)
Finds said (Err fault) m row = said ≡ nothing fault.line
