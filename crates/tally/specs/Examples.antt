-- A worked example of the sums, by computation.
use Rattle.std.specs.Prelude.{◌≡◌, refl, ℕ}
use Rattle.solver.specs.declared.Answer.{Answer}
use Rattle.tally.specs.Sums.{no_tally, counted, tallied}

-- An answer with this refusal and value.
abbrev with : (refusal value : ℕ) → Answer
with refusal value =
    record {
      refusal = refusal;
      place = 0;
      stamp = 0;
      value = value;
      scale = 0;
      phases = 0;
      saturating = 0;
      nonsaturating = 0;
      relabels = 0;
    }

-- Day 1 places 7, day 2 is refused, days 3 and 4 place 5 each: three tables solved, 17 in all, and day 3 is the first of least value.
four_days : tallied (tallied (tallied (tallied no_tally 1 (with 0 7)) 2 (with 5 0)) 3 (with 0 5)) 4 (with 0 5) ≡ record { solved = 3; total = 17; day = 3; least = 5 }
unfolding tallied counted
four_days = refl
