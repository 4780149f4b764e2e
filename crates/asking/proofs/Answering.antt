-- What an answer says of the full answer, and from the checks to an accepted table with room.
use Rattle.std.specs.Prelude.{Ok, Err}
use Prim.Native.Nat.{ℕ, ◌≤◌}
use mathlib.Core.Path.{◌≡◌, refl, sym, ap, ◌∙◌, subst}
use mathlib.Core.Bool.{Bool, true, false, cond}
use mathlib.Core.List.{List}
use native.Mathlib.Omega.{arith}
use borrow.Author.Tests.{leb-true}
use lib.ListN.{length}
use Rattle.table.specs.Table.{Table, arcs}
use Rattle.table.specs.Checks.{is_fine, no_refusal, refused, Verdict}
use Rattle.table.specs.Accepted.{Accepted}
use Rattle.table.proofs.Numbers.{number_positive}
use Rattle.minimums.specs.BoundedTable.{BoundedTable}
use Rattle.minimums.proofs.Accepting.{plain_accepts}
use Rattle.run.specs.Phase.{Run, run, value}
use Rattle.run.specs.Rows.{steps}
use Rattle.until.specs.Stopping.{into_sink, reaches, stopped, Stops}
use Rattle.until.proofs.Stepwise.{run_after}
use Rattle.until.proofs.Growing.{end_value, sink_never_falls}
use Rattle.until.proofs.Stopping.{stopped_stops}
use Rattle.asking.specs.Asking.{RoomLeft, room_left, room_need, has_work, refusal, answer_with, answer_of, asked, asking_as, asking_verdict, asking, Says}

-- A table that passes is accepted, and the work row has room.
pub fine_accepted : (b : BoundedTable) (work : ℕ) (v : Verdict) → v ≡ asking_verdict b work → v ≡ no_refusal
    → Accepted b.table × (room_need b.table.nodes (arcs b.table) ≤ work)
fine_accepted b work v found e =
    let (accepted, roomy) = plain_accepts b (has_work b.table.nodes (arcs b.table) work) (ap is_fine (sym found ∙ e)) in
    (accepted, leb-true _ _ roomy)

-- A mark of 1 is a yes, and of 0 a no.
marked_yes : (b : Bool) → ◌≡◌ {A = ℕ} (cond b 1 0) 1 → b ≡ true
marked_yes true e = refl
marked_yes false e = absurd (omega arith)

marked_no : (b : Bool) → ◌≡◌ {A = ℕ} (cond b 1 0) 0 → b ≡ false
marked_no true e = absurd (omega arith)
marked_no false e = refl

-- The answer of an accepted table says what CR 7 asks.
pub answer_says : (t : Table) → Accepted t → (stamp q : ℕ) → Says t q (answer_of t stamp q)
unfolding answer_with
answer_says t ok stamp q =
    record {
      yes = ap (λ (b : Bool). cond b 1 0) stops.yes;
      part = ap (λ (r : Run). r.counts) stops.part;
      saturating = stops.saturating;
      nonsaturating = stops.nonsaturating;
      relabels = stops.relabels;
      all = λ e. ap (λ (r : Run). r.counts) (whole e);
      first = stops.first;
      stop = ap (λ (r : Run). into_sink t r.state.flow) stops.part;
      most = most;
      reached = λ e. leb-true q (into_sink t here.state.flow) (marked_yes (reaches t q here) e);
      full = λ e. ap (λ (r : Run). into_sink t r.state.flow) (whole e) ∙ end_value t ok;
      scale_is = refl;
      phases_are = refl;
    }
  where
    here : Run
    here = stopped t q

    stops : Stops t q here
    stops = stopped_stops t q ok

    whole : ◌≡◌ {A = ℕ} (cond (reaches t q here) 1 0) 0 → here ≡ run t
    whole e = stops.all (marked_no (reaches t q here) e)

    few : steps here.counts ≤ steps (run t).counts
    few = omega (arith, stops.saturating, stops.nonsaturating, stops.relabels)

    most : into_sink t here.state.flow ≤ value t (run t).state.flow
    most =
        omega (
          arith,
          sink_never_falls t ok (steps here.counts) (steps (run t).counts) few,
          ap (λ (r : Run). into_sink t r.state.flow) stops.part,
          ap (λ (r : Run). into_sink t r.state.flow) (run_after t ok),
          end_value t ok,
        )

-- The equation gives the whole promise.
pub asking_says : (b : BoundedTable) (stamp q : ℕ) (work : List ℕ) (l : RoomLeft) → l ≡ asking b stamp q work → l.answer.refusal ≡ 0
    → Says b.table q l.answer
unfolding asking asking_as asked
asking_says b stamp q work l e none = go (asking_verdict b (length work)) refl
  where
    go : (v : Verdict) → asking_verdict b (length work) ≡ v → Says b.table q l.answer
    go (Ok _) fine =
        let same : l ≡ asked b.table stamp q work = e ∙ ap (λ (v : Verdict). asking_as v b.table stamp q work) fine in
        subst (λ (x : RoomLeft). Says b.table q x.answer) (sym same)
        (answer_says b.table (fine_accepted b (length work) (asking_verdict b (length work)) refl fine).0 stamp q)
    go (Err why) refused =
        let same : l ≡ room_left (refusal why.name why.place) work = e ∙ ap (λ (v : Verdict). asking_as v b.table stamp q work) refused in
        absurd (omega (arith, none, ap (λ (x : RoomLeft). x.answer.refusal) same, number_positive why.name))
