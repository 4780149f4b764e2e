-- Document 02, CR 10, of a month that is not refused as a whole: each table is answered as if given by itself, demands 2 and 3 hold table by
-- table, the work row is 0 as far as the greatest need among the solved days, the sums are those of the answers, and no other place is written.
use Rattle.std.specs.Prelude.{ℕ, zero, suc, ◌+◌, ◌*◌, ◌<◌, ◌≡◌, Bool, cond, List, eqb, leb, length}
use Rattle.rows.specs.Row.{at_place, part, cleared}
use Rattle.table.specs.Table.{arcs}
use Rattle.arcs.specs.Work.{work_need}
use Rattle.solver.specs.declared.Answer.{Answer}
use Rattle.solver.specs.Solving.{Left, left, Meets}
use Rattle.tally.specs.Sums.{Summed}
use Rattle.days.specs.declared.Month.{Month}
use Rattle.days.specs.Days.{Days, tables, start_of, arcs_of, marks_of, day_table, solved_day}

-- The answer that day j's nine numbers are.
abbrev pub answer_in : ℕ → List ℕ → Answer
answer_in j answers =
    record {
      refusal = at_place answers (9 * j);
      place = at_place answers (9 * j + 1);
      stamp = at_place answers (9 * j + 2);
      value = at_place answers (9 * j + 3);
      scale = at_place answers (9 * j + 4);
      phases = at_place answers (9 * j + 5);
      saturating = at_place answers (9 * j + 6);
      nonsaturating = at_place answers (9 * j + 7);
      relabels = at_place answers (9 * j + 8);
    }

-- What the rows hold of day j: its answer, its flows and its marks, beside some work row.
abbrev pub day_in : Days → ℕ → (flow side answers work : List ℕ) → Left
day_in d j flow side answers work = left (answer_in j answers) (arcs_of d j flow) (marks_of j side) work

-- Whether day j is solved.
abbrev pub solved_in : List ℕ → ℕ → Bool
solved_in answers j = eqb (answer_in j answers).refusal 0

-- What a day needs of the work row if it is solved; 0 if it is refused.
unfoldable pub need_of : Days → ℕ → (flow side work : List ℕ) → ℕ
need_of d j flow side work =
    cond (eqb (solved_day d j flow side work).answer.refusal 0) (work_need (day_table d j).table.nodes (arcs (day_table d j).table)) 0

-- The greater of two numbers.
abbrev pub greater : ℕ → ℕ → ℕ
greater a b = cond (leb a b) b a

-- The greatest need among the solved ones of the first days.
unfoldable pub greatest_need : Days → ℕ → (flow side work : List ℕ) → ℕ
greatest_need d zero flow side work = 0
greatest_need d (suc j) flow side work = greater (greatest_need d j flow side work) (need_of d j flow side work)

-- What no day writes: flows before the first start and behind the arc rows' end, marks behind 512 a table, numbers behind 9 a table. Rows without a
-- mark are those that were lent, rows with one those that are left.
pub record Untouched (d : Days) (flow side answers flow' side' answers' : List ℕ) : Type 0 where
  pub flow_before : part 0 (start_of d 0) flow' ≡ part 0 (start_of d 0) flow
  pub flow_behind : part (length d.capacities) (length flow) flow' ≡ part (length d.capacities) (length flow) flow
  pub side_behind : part (512 * tables d) (length side) side' ≡ part (512 * tables d) (length side) side
  pub answers_behind : part (9 * tables d) (length answers) answers' ≡ part (9 * tables d) (length answers) answers
  pub flow_long : length flow' ≡ length flow
  pub side_long : length side' ≡ length side
  pub answers_long : length answers' ≡ length answers

-- What holds of each day, and of the sums. Rows without a mark are those that were lent, rows with one those that are left.
pub record EachDay (d : Days) (flow side work answers flow' side' work' answers' : List ℕ) (m : Month) : Type 0 where
  -- The answer, flows and marks are those of the day's table given by itself.
  pub alone : (j : ℕ) → j < tables d → day_in d j flow' side' answers' (solved_day d j flow side work).work ≡ solved_day d j flow side work
  -- Demands 2 and 3 of each solved day.
  pub meets : (j : ℕ) → j < tables d → (answer_in j answers').refusal ≡ 0 → Meets (day_table d j).table (day_in d j flow' side' answers' work')
  -- The work row.
  pub cleared_to : work' ≡ cleared (greatest_need d (tables d) flow side work) work
  -- The sums are those of the answers.
  pub summed : Summed (tables d) (solved_in answers') (λ j. (answer_in j answers').value) m.solved m.total m.day
  -- The rest of the rows is as it was.
  pub untouched : Untouched d flow side answers flow' side' answers'
