-- Our own answer: what solving leaves, written out, is never SOLUTION, and is a full plan.
use Rattle.std.specs.Prelude.{Ok, Err}
use Prim.Native.Nat.{ℕ, ◌≤◌, ◌<◌}
use mathlib.Core.Path.{◌≡◌, refl, sym, ap, subst, subst⁻¹, ◌∙◌}
use mathlib.Core.Bool.{true, false}
use mathlib.Core.List.{List, ◌++◌}
use native.Mathlib.Omega.{arith}
use borrow.Author.Tests.{leb-true, leb-false}
use lib.Dec.{leb}
use lib.IntN.{pos}
use lib.ListN.{length, take, drop, length-append}
use lib.Seq.{take_at}
use Rattle.rows.proofs.Sums.{by_test}
use Rattle.table.specs.Table.{arcs}
use Rattle.table.specs.Accepted.{Accepted}
use Rattle.table.specs.Checks.{is_fine, refused, Verdict}
use Rattle.table.specs.Refusals.{number_of}
use Rattle.table.specs.declared.Name.TheVariants.{Room, Solution}
use Rattle.table.proofs.Numbers.{number_positive}
use Rattle.minimums.specs.BoundedTable.{BoundedTable}
use Rattle.minimums.specs.Checks.{plain_check}
use Rattle.minimums.proofs.Accepting.{plain_zeros, plain_accepts}
use Rattle.run.proofs.Answers.{run_best, run_fits, run_value}
use Rattle.solver.specs.Solving.{Left, answer_with, solving_verdict, solving_as, solving, solved}
use Rattle.planner.specs.Solving.{SignedLeft, left_with_sign, SolvesAs, Solves}
use Rattle.wording.specs.Text.{solution_text, IsSolution}
use Rattle.wording.proofs.Speaking.{text_front}
use Rattle.solution.specs.Writing.{Left as WritingLeft, written_with, left, writing}
use Rattle.solution.proofs.Writing.{verdict_room, flow_long, writing_refused}
use Rattle.solution.proofs.RoundTrip.{writes_solution}
use Rattle.plan.specs.Checking.{Checks}
use Rattle.plan.proofs.Own.{own_flow, own_value, own_side, own_yes}
use Rattle.own_plan.specs.OwnAnswer.{WrittenFull}

module _ (b : BoundedTable) (fine : is_fine (plain_check b true) ≡ true) (ok : Accepted b.table) (later marks text : List ℕ) where
  -- The text of the run's own answer,
  abbrev own : List ℕ
  own = solution_text b.table (own_value b.table ok) (own_flow b.table ok)

  -- which is a solution text.
  own_solution : IsSolution b.table own (own_value b.table ok) (own_flow b.table ok)
  own_solution =
      record {
        value_fits = run_value b.table ok;
        long = (run_fits b.table ok).flow;
        within = λ k l. (run_best b.table ok).answer.valid.high k l;
        is = refl;
      }

  -- Its flow row, with whatever stands behind the flows.
  abbrev flows : List ℕ
  flows = own_flow b.table ok ++ later

  -- What stands behind the flows is not written.
  same_text : solution_text b.table (own_value b.table ok) flows ≡ own
  same_text = text_front b.table (own_value b.table ok) (own_flow b.table ok) later ((run_fits b.table ok).flow ∙ ok.rows.capacities_long)

  -- It is written where there is room,
  own_written : length own ≤ length text → writing b (own_value b.table ok) flows text ≡ left (written_with 0 0 (length own)) (own ++ drop (length own) text)
  own_written fits = writes_solution b fine own (own_value b.table ok) (own_flow b.table ok) later own_solution text fits

  -- and else refused as ROOM.
  own_short : length text < length own → (writing b (own_value b.table ok) flows text).written ≡ written_with (number_of Room) 0 0
  own_short short =
      let enough : arcs b.table ≤ length flows = omega (arith, length-append (own_flow b.table ok) later, (run_fits b.table ok).flow) in
      let none = flow_long b.table (own_value b.table ok) flows (length text) enough (length own) (ap length (sym same_text)) in
      let verdict = verdict_room b (own_value b.table ok) flows (length text) {found = plain_check b true} refl fine none
      (no_leb (length own) (length text) short) in
      sym
      (ap (λ (l : WritingLeft). l.written)
      (writing_refused b (own_value b.table ok) flows text (refused Room 0) verdict (written_with (number_of Room) 0 0) Room 0 refl refl))
    where
      no_leb : (x y : ℕ) → y < x → leb x y ≡ false
      no_leb x y l = by_test (leb x y) (λ e. absurd (omega (arith, leb-true x y e))) (λ e. e)

  -- So writing it is never refused as SOLUTION, and checking what was written says yes.
  own_full : WrittenFull b (own_value b.table ok) flows (own_side b.table ok ++ marks) text
  own_full = by_test (leb (length own) (length text)) (λ e. written (own_written (leb-true _ _ e))) (λ e. refused (own_short (leb-false _ _ e)))
    where
      written : writing b (own_value b.table ok) flows text ≡ left (written_with 0 0 (length own)) (own ++ drop (length own) text)
          → WrittenFull b (own_value b.table ok) flows (own_side b.table ok ++ marks) text
      written e =
          let filled : take (writing b (own_value b.table ok) flows text).written.filled (writing b (own_value b.table ok) flows text).text ≡ own =
          ap (λ (l : WritingLeft). take l.written.filled l.text) e ∙ take_at own (drop (length own) text) (length own) refl in
          record {
            never_solution = λ z. let other : 0 ≡ number_of Solution = sym (ap (λ (l : WritingLeft). l.written.refusal) e) ∙ z in omega arith;
            yes = λ _ r c. own_yes b fine ok later marks r (subst (λ (x : List ℕ). Checks b x (own_side b.table ok ++ marks) r) (filled ∙ sym same_text) c);
          }

      refused : (writing b (own_value b.table ok) flows text).written ≡ written_with (number_of Room) 0 0
          → WrittenFull b (own_value b.table ok) flows (own_side b.table ok ++ marks) text
      refused e =
          record {
            never_solution = λ z. let other : number_of Room ≡ number_of Solution = sym (ap (λ w. w.refusal) e) ∙ z in omega arith;
            yes = λ z. absurd (let other : number_of Room ≡ 0 = sym (ap (λ w. w.refusal) e) ∙ z in omega arith);
          }

-- What document 01's solving leaves, where it refuses nothing, is so.
solving_full : (b : BoundedTable) → is_fine (plain_check b true) ≡ true → (stamp : ℕ) (flow side work text : List ℕ)
    → (solving b.table stamp flow side work).answer.refusal ≡ 0
    → WrittenFull b (solving b.table stamp flow side work).answer.value (solving b.table stamp flow side work).flow
    (solving b.table stamp flow side work).side text
unfolding solving solving_as solved answer_with
solving_full b fine stamp flow side work text none = by (solving_verdict b.table (length flow) (length side) (length work)) none
  where
    left_by : Verdict → Left
    left_by v = solving_as v b.table stamp flow side work

    by : (v : Verdict) → (left_by v).answer.refusal ≡ 0 → WrittenFull b (left_by v).answer.value (left_by v).flow (left_by v).side text
    by (Ok _) z = own_full b fine (plain_accepts b true fine).0 (drop (arcs b.table) flow) (drop b.table.nodes side) text
    by (Err why) z = absurd (number_positive why.name z)

-- So is what `planner::solve` leaves of a table without minimums: its value is a number, and writing it out with its flow row is never refused as
-- SOLUTION; what was written, checked with its side row, gets a yes.
pub own_answer : (b : BoundedTable) → is_fine (plain_check b true) ≡ true → (stamp : ℕ) (flow side work text : List ℕ) (l : SignedLeft)
    → Solves b stamp flow side work l → l.answer.refusal ≡ 0 → (value : ℕ) × (l.answer.value ≡ pos value) × WrittenFull b value l.flow l.side text
own_answer b fine stamp flow side work text l so none =
    let t = b.table in
    let same : l ≡ left_with_sign (solving t stamp flow side work) = subst (λ p. SolvesAs p b stamp flow side work l) (plain_zeros b true fine) so in
    let zero : (solving t stamp flow side work).answer.refusal ≡ 0 = sym (ap (λ (x : SignedLeft). x.answer.refusal) same) ∙ none in (
      (solving t stamp flow side work).answer.value,
      ap (λ (x : SignedLeft). x.answer.value) same,
      subst⁻¹ (λ (x : SignedLeft). WrittenFull b (solving t stamp flow side work).answer.value x.flow x.side text) same
          (solving_full b fine stamp flow side work text zero),
    )
