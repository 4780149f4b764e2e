-- Document 02, CR 10: the tables solved, the total value and the first solved day of least value, 0 if none.
use Rattle.std.specs.Prelude.{ℕ, ◌+◌, ◌≤◌, ◌<◌, ◌≡◌, Bool, true, false, cond, ◌||◌, ltb, eqb}
use Rattle.rows.specs.Sum.{sum, only}
use Rattle.solver.specs.declared.Answer.{Answer}
use Rattle.tally.specs.declared.Tally.{Tally}

-- ---- day after day

-- Before the first day.
abbrev pub no_tally : Tally
no_tally = record { solved = 0; total = 0; day = 0; least = 0 }

-- Whether a solved day's value is the least so far: the first one, or below the least.
abbrev pub is_lower : Tally → ℕ → Bool
is_lower b value = eqb b.day 0 || ltb value b.least

-- One solved day more, of this number and value: the tables solved, the total value, the first day of least value, and that value.
unfoldable pub counted : Tally → (day value : ℕ) → Tally
counted b day value =
    record {
      solved = b.solved + 1;
      total = b.total + value;
      day = cond (is_lower b value) day b.day;
      least = cond (is_lower b value) value b.least;
    }

-- A refused day counts nowhere.
unfoldable pub tallied : Tally → (day : ℕ) → Answer → Tally
tallied b day a = cond (eqb a.refusal 0) (counted b day a.value) b

-- ---- what the sums say

-- Day i of the first k is the first solved one of least value.
pub record FirstLeast (k : ℕ) (solved : ℕ → Bool) (value : ℕ → ℕ) (i : ℕ) : Type 0 where
  pub inside : i < k
  pub is_solved : solved i ≡ true
  pub least : (j : ℕ) → j < k → solved j ≡ true → value i ≤ value j
  pub first : (j : ℕ) → j < i → solved j ≡ true → value i < value j

-- What the sums say of the answers: how many of k tables are solved, the values of these together, and the first of least value, counted from 1; 0 if none is solved.
pub record Summed (k : ℕ) (solved : ℕ → Bool) (value : ℕ → ℕ) (tables total day : ℕ) : Type 0 where
  pub solved_are : tables ≡ sum k (λ j. only (solved j) 1)
  pub total_is : total ≡ sum k (λ j. only (solved j) (value j))
  pub none : day ≡ 0 → (j : ℕ) → j < k → solved j ≡ false
  pub some : (i : ℕ) → day ≡ i + 1 → FirstLeast k solved value i
