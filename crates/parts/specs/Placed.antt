-- A row with a new part.
use Rattle.std.specs.Prelude.{ℕ, List, ◌++◌, take, drop}

-- The row with new numbers from place a up to place e.
abbrev pub placed : (a e : ℕ) → List ℕ → List ℕ → List ℕ
placed a e new row = take a row ++ (new ++ drop e row)
