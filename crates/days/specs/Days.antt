-- Document 02, CR 10: a month of day tables whose arcs are joined in shared rows, and what one day answers and leaves. Days are counted from 0 here.
use Rattle.std.specs.Prelude.{ℕ, zero, suc, ◌+◌, ◌*◌, List, [], ◌∷◌, length, get_or}
use Rattle.rows.specs.Row.{at_place, part}
use Rattle.parts.specs.Placed.{placed}
use Rattle.minimums.specs.BoundedTable.{BoundedTable, bounded_of}
use Rattle.solver.specs.declared.Answer.{Answer}
use Rattle.solver.specs.Solving.{Left, left}
use Rattle.tally.specs.declared.Tally.{Tally}
use Rattle.tally.specs.Sums.{tallied}
use Rattle.days.specs.declared.LentDays.{LentDays}
use Rattle.verdicts.specs.Plain.{plain_solving}

-- What the call is given: a row each of starts, n, s, t and stamps by day, and the arcs of all days joined in four rows.
pub record Days : Type 0 where
  pub starts : List ℕ
  pub nodes : List ℕ
  pub sources : List ℕ
  pub sinks : List ℕ
  pub stamps : List ℕ
  pub tails : List ℕ
  pub heads : List ℕ
  pub capacities : List ℕ
  pub minimums : List ℕ

-- The days of these rows.
abbrev pub days_of : (starts nodes sources sinks stamps tails heads capacities minimums : List ℕ) → Days
days_of starts nodes sources sinks stamps tails heads capacities minimums =
    record {
      starts = starts;
      nodes = nodes;
      sources = sources;
      sinks = sinks;
      stamps = stamps;
      tails = tails;
      heads = heads;
      capacities = capacities;
      minimums = minimums;
    }

-- The days that a lent month holds.
abbrev pub days_in : LentDays → Days
days_in d =
    days_of d.starts.now d.nodes.now d.sources.now d.sinks.now d.stamps.now d.tails.now d.heads.now d.capacities.now d.minimums.now

-- How many tables there are.
abbrev pub tables : Days → ℕ
tables d = length d.starts

-- Where a day's arcs start, days counted from 0; past the last day the rows' end.
abbrev pub start_of : Days → ℕ → ℕ
start_of d j = get_or d.starts j (length d.capacities)

-- A row by arc's part of a day: each table ends where the next starts.
abbrev pub arcs_of : Days → ℕ → List ℕ → List ℕ
arcs_of d j row = part (start_of d j) (start_of d (j + 1)) row

-- Where a day's marks start.
abbrev pub marks_at : ℕ → ℕ
marks_at j = 512 * j

-- A row of marks' part of a day: 512 of them.
abbrev pub marks_of : ℕ → List ℕ → List ℕ
marks_of j row = part (marks_at j) (marks_at j + 512) row

-- A day's table.
abbrev pub day_table : Days → ℕ → BoundedTable
day_table d j =
    bounded_of (at_place d.nodes j) (at_place d.sources j) (at_place d.sinks j)
    (arcs_of d j d.tails) (arcs_of d j d.heads) (arcs_of d j d.capacities) (arcs_of d j d.minimums)

-- The nine numbers of an answer.
abbrev pub nine : Answer → List ℕ
nine a =
    a.refusal ∷ a.place ∷ a.stamp ∷ a.value ∷ a.scale ∷ a.phases ∷ a.saturating ∷ a.nonsaturating ∷ a.relabels ∷ []

-- ---- day after day

-- The sums so far, and what the four rows to be written hold.
pub record Held : Type 0 where
  pub tally : Tally
  pub flow : List ℕ
  pub side : List ℕ
  pub work : List ℕ
  pub answers : List ℕ

-- The same, from its parts.
abbrev pub held : Tally → (flow side work answers : List ℕ) → Held
held tally flow side work answers = record { tally = tally; flow = flow; side = side; work = work; answers = answers }

-- Day j solved as if given by itself, with its parts of the flow and side rows and the whole work row lent.
abbrev pub solved_day : Days → ℕ → (flow side work : List ℕ) → Left
solved_day d j flow side work = plain_solving (day_table d j) (at_place d.stamps j) (arcs_of d j flow) (marks_of j side) work

-- What solving left of parts of the rows: flows from a up to e, and 512 marks from `at`.
abbrev pub part_left : (a e at : ℕ) → (flow side : List ℕ) → Left → Left
part_left a e at flow side l = left l.answer (placed a e l.flow flow) (placed at (at + 512) l.side side) l.work

-- A day's answer, and the whole rows with its flows in the arcs' places and its marks from where they start.
abbrev pub day_left : Days → ℕ → (flow side work : List ℕ) → Left
day_left d j flow side work = part_left (start_of d j) (start_of d (j + 1)) (marks_at j) flow side (solved_day d j flow side work)

-- With a day's answer counted, and its nine numbers from 9 times j.
abbrev pub with_day : ℕ → Held → Left → Held
with_day j h l =
    held (tallied h.tally (j + 1) l.answer) l.flow l.side l.work (placed (9 * j) (9 * j + 9) (nine l.answer) h.answers)

-- One day more.
unfoldable pub next_day : Days → ℕ → Held → Held
next_day d j h = with_day j h (day_left d j h.flow h.side h.work)

-- The first days, one after the other.
unfoldable pub first_days : Days → ℕ → Held → Held
first_days d zero h = h
first_days d (suc j) h = next_day d j (first_days d j h)
