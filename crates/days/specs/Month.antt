-- Document 02, CR 10: what a month in one call answers, and what the lent rows hold afterwards.
use Rattle.std.specs.Prelude.{ℕ, zero, suc, ◌+◌, ◌*◌, Bool, false, not, ◌&&◌, ◌||◌, List, ltb, leb, length, get_or, Ok, Err}
use Rattle.table.specs.Checks.{differ, refuse_if, no_refusal, Verdict}
use Rattle.table.specs.Refusals.{number_of}
use Rattle.table.specs.declared.Name.{Name}
use Rattle.table.specs.declared.Name.TheVariants.{Rows, Room, Many, Starts}
use Rattle.minimums.specs.Checks.{differ_four}
use Rattle.tally.specs.declared.Tally.{Tally}
use Rattle.tally.specs.Sums.{no_tally}
use Rattle.days.specs.declared.Month.{Month}
use Rattle.days.specs.Days.{Days, tables, Held, held, first_days}

-- ---- refusals of the whole call

-- Of the first k starts, one is above the next, or above the rows' end where it is the last.
unfoldable pub starts_fall : (starts : List ℕ) → (end k : ℕ) → Bool
starts_fall starts end zero = false
starts_fall starts end (suc k) = starts_fall starts end k || ltb (get_or starts (k + 1) end) (get_or starts k end)

-- Either set of rows differs in length: the five by day, or the four by arc.
unfoldable pub rows_differ : (starts nodes sources sinks stamps tails heads capacities minimums : ℕ) → Bool
rows_differ starts nodes sources sinks stamps tails heads capacities minimums =
    differ_four tails heads capacities minimums || (differ starts nodes sources || differ starts sinks stamps)

-- Rows of these lengths have a flow for each of m arcs, and 512 marks and 9 numbers a table.
unfoldable pub has_month_room : (k m flow side answers : ℕ) → Bool
has_month_room k m flow side answers = leb m flow && (leb (512 * k) side && leb (9 * k) answers)

-- MANY (above 31 starts), ROWS, STARTS and ROOM, in that order, of these starts and rows of these lengths.
unfoldable pub verdict_of : (starts : List ℕ) → (nodes sources sinks stamps tails heads capacities minimums flow side answers : ℕ) → Verdict
verdict_of starts nodes sources sinks stamps tails heads capacities minimums flow side answers =
    refuse_if (ltb 31 (length starts)) Many 0
    (refuse_if (rows_differ (length starts) nodes sources sinks stamps tails heads capacities minimums) Rows 0
    (refuse_if (starts_fall starts capacities (length starts)) Starts 0
    (refuse_if (not (has_month_room (length starts) capacities flow side answers)) Room 0 no_refusal)))

-- The verdict of a month's days.
abbrev pub month_verdict : Days → (flow side answers : ℕ) → Verdict
month_verdict d flow side answers =
    verdict_of d.starts (length d.nodes) (length d.sources) (length d.sinks) (length d.stamps)
    (length d.tails) (length d.heads) (length d.capacities) (length d.minimums) flow side answers

-- ---- the call

-- What the call returns, and what the four rows lent to it hold afterwards.
pub record MonthLeft : Type 0 where
  pub month : Month
  pub flow : List ℕ
  pub side : List ℕ
  pub work : List ℕ
  pub answers : List ℕ

-- The same, from its parts.
abbrev pub month_left : Month → (flow side work answers : List ℕ) → MonthLeft
month_left month flow side work answers = record { month = month; flow = flow; side = side; work = work; answers = answers }

-- A refusal of the whole call: its number and place, other result fields 0.
abbrev pub month_refusal : Name → ℕ → Month
month_refusal name place = record { refusal = number_of name; place = place; solved = 0; total = 0; day = 0 }

-- The tables solved, the total value, and the first solved day of least value, 0 if none.
abbrev pub month_sums : Tally → Month
month_sums b = record { refusal = 0; place = 0; solved = b.solved; total = b.total; day = b.day }

-- What is held after the last day.
abbrev pub month_of : Held → MonthLeft
month_of h = month_left (month_sums h.tally) h.flow h.side h.work h.answers

-- A refusal of the whole call leaves every lent row unchanged.
unfoldable pub month_as : Verdict → Days → (flow side work answers : List ℕ) → MonthLeft
month_as (Ok _) d flow side work answers = month_of (first_days d (tables d) (held no_tally flow side work answers))
month_as (Err why) d flow side work answers = month_left (month_refusal why.name why.place) flow side work answers

-- Solving a month's tables, with these rows lent.
unfoldable pub month : Days → (flow side work answers : List ℕ) → MonthLeft
month d flow side work answers =
    month_as (month_verdict d (length flow) (length side) (length answers)) d flow side work answers
