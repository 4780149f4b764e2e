-- What the start and the value sum up: for the contracts of functions over bare rows.
use Rattle.std.specs.Prelude.{ℕ, ◌+◌, ◌-◌, cond, List, eqb, set}
use Rattle.rows.specs.Row.{at_place, at_node}
use Rattle.rows.specs.Sum.{sum, only}

-- The excess row after node j received c; the sink holds nothing.
abbrev pub received : List ℕ → (sink j c : ℕ) → List ℕ
received excess sink j c = cond (eqb j sink) excess (set excess (j - 1) (at_node excess j + c))

-- The flows at places below k whose end, tail or head as the row says, is i.
abbrev pub sum_at : (ends flow : List ℕ) (i k : ℕ) → ℕ
sum_at ends flow i k = sum k (λ j. only (eqb (at_place ends j) i) (at_place flow j))
