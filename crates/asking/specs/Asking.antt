-- Document 02, CR 7, "Is there room for at least this many?": what the question returns, and what the work row holds afterwards.
use Rattle.std.specs.Prelude.{ℕ, ◌+◌, ◌*◌, ◌≤◌, ◌<◌, ◌≡◌, Bool, cond, List, leb, length, Ok, Err}
use Rattle.rows.specs.Row.{cleared}
use Rattle.table.specs.Table.{Table, arcs}
use Rattle.table.specs.Refusals.{refusal_in, place_in}
use Rattle.table.specs.declared.Name.{Name}
use Rattle.minimums.specs.BoundedTable.{BoundedTable}
use Rattle.minimums.specs.Checks.{plain_check}
use Rattle.run.specs.Scale.{phase_count, scale}
use Rattle.run.specs.Phase.{run, value}
use Rattle.run.specs.Rows.{steps}
use Rattle.run.specs.declared.Counts.{Counts}
use Rattle.until.specs.Stepwise.{after_steps}
use Rattle.until.specs.Stopping.{into_sink, reaches, stopped}
use Rattle.asking.specs.declared.Room.{Room}
use Rattle.table.specs.Checks.{no_refusal, refused, Verdict}

-- What the question returns, and what the work row lent to it holds afterwards.
pub record RoomLeft : Type 0 where
  pub answer : Room
  pub work : List ℕ

-- The same, from its parts.
abbrev pub room_left : Room → List ℕ → RoomLeft
room_left answer work = record { answer = answer; work = work }

-- The work row needs 4n + 3m + 1 numbers here.
abbrev pub room_need : (n m : ℕ) → ℕ
room_need n m = 4 * n + 3 * m + 1

-- Whether a work row of this length has them.
abbrev pub has_work : (n m work : ℕ) → Bool
has_work n m work = leb (room_need n m) work

-- A refusal returns its number and place, other result fields 0.
abbrev pub refusal : Name → ℕ → Room
refusal name place =
    record {
      refusal = refusal_in (refused name place);
      place = place_in (refused name place);
      stamp = 0;
      yes = 0;
      value = 0;
      scale = 0;
      phases = 0;
      saturating = 0;
      nonsaturating = 0;
      relabels = 0;
    }

-- The answer of these results: 1 for yes, 0 for no.
unfoldable pub answer_with : (stamp : ℕ) (said : Bool) (worth scale phases : ℕ) → Counts → Room
answer_with stamp said worth scale phases counts =
    record {
      refusal = refusal_in no_refusal;
      place = place_in no_refusal;
      stamp = stamp;
      yes = cond said 1 0;
      value = worth;
      scale = scale;
      phases = phases;
      saturating = counts.saturating;
      nonsaturating = counts.nonsaturating;
      relabels = counts.relabels;
    }

-- Of the run that stops at q: whether q is reached, the net flow into the sink at the stop, and the steps taken; D and K are the full run's.
abbrev pub answer_of : Table → (stamp q : ℕ) → Room
answer_of t stamp q =
    let r = stopped t q in
    answer_with stamp (reaches t q r) (into_sink t r.state.flow) (scale t) (phase_count t) r.counts

-- A table that was asked: the answer, and a cleared work row.
unfoldable pub asked : Table → (stamp q : ℕ) → (work : List ℕ) → RoomLeft
asked t stamp q work = room_left (answer_of t stamp q) (cleared (room_need t.nodes (arcs t)) work)

-- A refusal leaves the work row unchanged.
unfoldable pub asking_as : Verdict → Table → (stamp q : ℕ) → (work : List ℕ) → RoomLeft
asking_as (Ok _) t stamp q work = asked t stamp q work
asking_as (Err why) t stamp q work = room_left (refusal why.name why.place) work

-- The refusals are those of solving, with ROOM of a work row of this length, then BOUNDED. They do not depend on q.
abbrev pub asking_verdict : BoundedTable → (work : ℕ) → Verdict
asking_verdict b work = plain_check b (has_work b.table.nodes (arcs b.table) work)

-- Asking whether a table with its stamp has room for at least q, with this work row lent.
unfoldable pub asking : BoundedTable → (stamp q : ℕ) → (work : List ℕ) → RoomLeft
asking b stamp q work = asking_as (asking_verdict b (length work)) b.table stamp q work

-- The three counts of an answer.
abbrev pub counts_of : Room → Counts
counts_of a = record { saturating = a.saturating; nonsaturating = a.nonsaturating; relabels = a.relabels }

-- What an answer says of the full answer: yes exactly where the full value is at least q; the counts are of the full run's first steps, or of all
-- of them where the answer is no; before the last of them the net flow into the sink had not reached q; the value is that net flow after those steps:
-- at most the full value, at least q where the answer is yes, and the full value where it is no; D and K are the full run's.
pub record Says (t : Table) (q : ℕ) (a : Room) : Type 0 where
  pub yes : a.yes ≡ cond (leb q (value t (run t).state.flow)) 1 0
  pub part : counts_of a ≡ (after_steps t (steps (counts_of a))).counts
  pub saturating : a.saturating ≤ (run t).counts.saturating
  pub nonsaturating : a.nonsaturating ≤ (run t).counts.nonsaturating
  pub relabels : a.relabels ≤ (run t).counts.relabels
  pub all : a.yes ≡ 0 → counts_of a ≡ (run t).counts
  pub first : (j : ℕ) → j < steps (counts_of a) → into_sink t (after_steps t j).state.flow < q
  pub stop : a.value ≡ into_sink t (after_steps t (steps (counts_of a))).state.flow
  pub most : a.value ≤ value t (run t).state.flow
  pub reached : a.yes ≡ 1 → q ≤ a.value
  pub full : a.yes ≡ 0 → a.value ≡ value t (run t).state.flow
  pub scale_is : a.scale ≡ scale t
  pub phases_are : a.phases ≡ phase_count t
