-- Facts of solving a day that a month rests on: the value is small, no row's length changes, and what stood in the work row does not matter.
use Rattle.std.specs.Prelude.{Ok, Err}
use Prim.Native.Nat.{ℕ, ◌≤◌}
use mathlib.Core.Path.{◌≡◌, refl, sym, ap, ◌∙◌, subst}
use mathlib.Core.Bool.{true, false, cond}
use mathlib.Core.List.{List, ◌++◌}
use native.Mathlib.Omega.{arith}
use borrow.Author.Tests.{ne_eqb}
use lib.Dec.{eqb}
use lib.ListN.{length, drop, length-append, length-drop, length-replicate, replicate}
use Rattle.rows.specs.Row.{at_place, cleared}
use Rattle.rows.proofs.Sums.{both_true}
use Rattle.table.specs.Table.{Table, arcs, network_of}
use Rattle.table.specs.Checks.{is_fine, or_else, no_refusal, refused, Verdict}
use Rattle.table.specs.Refusals.{number_of}
use Rattle.table.specs.Accepted.{Accepted}
use Rattle.table.specs.declared.Name.{Name}
use Rattle.table.specs.declared.Name.TheVariants.{Bounded}
use Rattle.table.proofs.Numbers.{number_positive}
use Rattle.reach.specs.Side.{side_of}
use Rattle.reach.proofs.Side.{length_of_side}
use Rattle.run.specs.Phase.{run, value}
use Rattle.run.proofs.Networks.{accepted_sound}
use Rattle.run.proofs.Answers.{run_fits, run_value}
use Rattle.arcs.specs.Work.{work_need}
use Rattle.minimums.specs.BoundedTable.{BoundedTable}
use Rattle.minimums.specs.Checks.{plain, all_zero, bounded_check}
use Rattle.minimums.proofs.Accepting.{plain_check_lem, plain_accepts}
use Rattle.solver.specs.declared.Answer.{Answer}
use Rattle.solver.specs.Solving.{Left, answer_with, refusal, left, solved, solving_as, solving_verdict, solving, has_room, Meets}
use Rattle.verdicts.specs.Plain.{plain_verdict, plain_solving}
use Rattle.solver.proofs.Solved.{Roomy, room_roomy, solved_meets}

-- Rows that are as long as those lent.
pub record Long (flow side work : List ℕ) (l : Left) : Type 0 where
  pub flow_long : length l.flow ≡ length flow
  pub side_long : length l.side ≡ length side
  pub work_long : length l.work ≡ length work

-- A front in the place of as many numbers.
front_long : (n : ℕ) (front row : List ℕ) → length front ≡ n → n ≤ length row → length (front ++ drop n row) ≡ length row
front_long n front row size room = simp (length-append, length-drop) (omega arith)

module _ (b : BoundedTable) (stamp : ℕ) (flow side work : List ℕ) where
  -- Document 01's table.
  abbrev t : Table
  t = b.table

  -- The verdict.
  abbrev verdict : Verdict
  verdict = plain_verdict b (length flow) (length side) (length work)

  -- Where it refuses nothing the table is accepted,
  pub plain_accepted : verdict ≡ no_refusal → Accepted t
  plain_accepted e = (plain_accepts b _ (ap is_fine e)).0

  -- and the rows have room.
  pub plain_roomy : verdict ≡ no_refusal → Roomy t.nodes (arcs t) (length flow) (length side) (length work)
  plain_roomy e = room_roomy _ _ _ _ _ (plain_accepts b _ (ap is_fine e)).1

  -- Where it refuses, that is the answer, and every row stays.
  pub refused_plain : (name : Name) (place : ℕ) → verdict ≡ refused name place → {r : Answer} → r ≡ refusal name place
      → left r flow side work ≡ plain_solving b stamp flow side work
  unfolding plain_solving solving_as
  refused_plain name place e f = rw e (ap (λ (a : Answer). left a flow side work) f)

  -- Where it does not, what is left is the solved table's.
  pub fine_plain : verdict ≡ no_refusal → {l : Left} → l ≡ solved t stamp flow side work → l ≡ plain_solving b stamp flow side work
  unfolding plain_solving solving_as
  fine_plain e f = rw e f

  -- The value is at most 4,096,000,000.
  pub plain_value : (plain_solving b stamp flow side work).answer.value ≤ 4096000000
  unfolding plain_solving solving_as solved answer_with
  plain_value = go (verdict) refl
    where
      go : (v : Verdict) → v ≡ verdict → (solving_as v t stamp flow side work).answer.value ≤ 4096000000
      go (Ok _) e = run_value t (plain_accepted (sym e))
      go (Err why) e = omega arith

  -- Each row stays as long as it was.
  pub plain_long : Long flow side work (plain_solving b stamp flow side work)
  unfolding plain_solving solving_as solved
  plain_long = go (verdict) refl
    where
      solved_long : Accepted t → Roomy t.nodes (arcs t) (length flow) (length side) (length work) → Long flow side work (solved t stamp flow side work)
      solved_long ok room =
          record {
            flow_long = front_long (arcs t) (run t).state.flow flow (run_fits t ok).flow room.for_flow;
            side_long =
                front_long t.nodes (side_of t (run t).state.flow) side
                (length_of_side (network_of t) (at_place (run t).state.flow) (accepted_sound t ok)) room.for_side;
            work_long = front_long (work_need t.nodes (arcs t)) (replicate (work_need t.nodes (arcs t)) 0) work (length-replicate _ 0) room.for_work;
          }

      go : (v : Verdict) → v ≡ verdict → Long flow side work (solving_as v t stamp flow side work)
      go (Ok _) e = solved_long (plain_accepted (sym e)) (plain_roomy (sym e))
      go (Err why) e = record { flow_long = refl; side_long = refl; work_long = refl }

  -- What a solved table needs of the work row; 0 of a refused one.
  abbrev pub need : ℕ
  need = cond (eqb (plain_solving b stamp flow side work).answer.refusal 0) (work_need t.nodes (arcs t)) 0

  -- It fits the row.
  pub need_fits : need ≤ length work
  unfolding plain_solving solving_as solved answer_with
  need_fits = go (verdict) refl
    where
      go : (v : Verdict) → v ≡ verdict
          → cond (eqb (solving_as v t stamp flow side work).answer.refusal 0) (work_need t.nodes (arcs t)) 0 ≤ length work
      go (Ok _) e = (plain_roomy (sym e)).for_work
      go (Err why) e = rw (ne_eqb (number_of why.name) 0 (number_positive why.name)) (omega arith)

  -- With another work row of that length lent: the answer, the flows and the marks are the same, and that row is cleared.
  pub record SameButWork (other : List ℕ) : Type 0 where
    pub same_answer : (plain_solving b stamp flow side other).answer ≡ (plain_solving b stamp flow side work).answer
    pub same_flow : (plain_solving b stamp flow side other).flow ≡ (plain_solving b stamp flow side work).flow
    pub same_side : (plain_solving b stamp flow side other).side ≡ (plain_solving b stamp flow side work).side
    pub other_cleared : (plain_solving b stamp flow side other).work ≡ cleared need other

  pub same_but_work : (other : List ℕ) → length other ≡ length work → SameButWork other
  unfolding plain_solving solving_as solved answer_with
  same_but_work other long =
      let verdicts : plain_verdict b (length flow) (length side) (length other) ≡ verdict = rw long in
      record {
        same_answer = rw verdicts (answer_by (verdict));
        same_flow = rw verdicts (flow_by (verdict));
        same_side = rw verdicts (side_by (verdict));
        other_cleared = rw verdicts (work_by (verdict));
      }
    where
      answer_by : (v : Verdict) → (solving_as v t stamp flow side other).answer ≡ (solving_as v t stamp flow side work).answer
      answer_by (Ok _) = refl
      answer_by (Err why) = refl

      flow_by : (v : Verdict) → (solving_as v t stamp flow side other).flow ≡ (solving_as v t stamp flow side work).flow
      flow_by (Ok _) = refl
      flow_by (Err why) = refl

      side_by : (v : Verdict) → (solving_as v t stamp flow side other).side ≡ (solving_as v t stamp flow side work).side
      side_by (Ok _) = refl
      side_by (Err why) = refl

      work_by : (v : Verdict) → (solving_as v t stamp flow side other).work
          ≡ cleared (cond (eqb (solving_as v t stamp flow side work).answer.refusal 0) (work_need t.nodes (arcs t)) 0) other
      work_by (Ok _) = refl
      work_by (Err why) = rw (ne_eqb (number_of why.name) 0 (number_positive why.name))

  -- What refuses nothing meets demands 2 and 3.
  pub plain_meets : (l : Left) → l ≡ plain_solving b stamp flow side work → l.answer.refusal ≡ 0 → Meets t l
  unfolding plain_solving solving_as
  plain_meets l same none = go verdict refl
    where
      go : (v : Verdict) → v ≡ verdict → Meets t l
      go (Ok _) e = subst (Meets t) (sym (same ∙ rw (← e))) (solved_meets t stamp flow side work (plain_accepted (sym e)))
      go (Err why) e =
          let is : l ≡ left (refusal why.name why.place) flow side work = same ∙ rw (← e) in
          absurd (number_positive why.name (sym (ap (λ (x : Left). x.answer.refusal) is) ∙ none))

  -- With a minimum for each arc that is 0 it is document 01's solving.
  pub plain_solving_lem : plain b ≡ true → plain_solving b stamp flow side work ≡ solving t stamp flow side work
  unfolding plain_solving solving or_else
  plain_solving_lem zeros =
      let (long, all) = both_true (eqb (length b.minimums) (arcs t)) (all_zero b.minimums) zeros in
      rw (plain_check_lem b (has_room t.nodes (arcs t) (length flow) (length side) (length work)) zeros, all)
      (ap (λ (v : Verdict). solving_as v t stamp flow side work) (or_fine (solving_verdict t (length flow) (length side) (length work))))
    where
      or_fine : (v : Verdict) → or_else v no_refusal ≡ v
      or_fine (Ok _) = refl
      or_fine (Err why) = refl

  -- With a minimum above 0, where the table's own checks refuse nothing, it is BOUNDED (21), and every row stays.
  pub plain_bounded : bounded_check b (has_room t.nodes (arcs t) (length flow) (length side) (length work)) ≡ no_refusal → all_zero b.minimums ≡ false
      → plain_solving b stamp flow side work ≡ left (refusal Bounded 0) flow side work
  unfolding plain_solving solving_as or_else
  plain_bounded fine some = rw (fine, some)
