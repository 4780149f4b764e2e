-- Reading what was written gives what went in; a text is read exactly if it is the text of some value and some row within the capacities, and else
-- refused at the first line that no such text has there.
use Rattle.std.specs.Prelude.{Ok, Err}
use Prim.Native.Nat.{ℕ, suc, ◌≤◌}
use mathlib.Core.Path.{◌≡◌, refl, sym, ap, subst, subst⁻¹, ◌∙◌}
use mathlib.Core.Bool.{Bool, true, not}
use mathlib.Core.List.{List, [], ◌∷◌, ◌++◌}
use native.Mathlib.Omega.{arith}
use lib.Dec.{ltb, leb}
use lib.ListN.{length, take, drop, length-append, take-append-drop, get_or-append}
use lib.Seq.{take_at, take_all, length-take-le}
use borrow.Author.Tests.{le-ltb, ltb-false, le-leb}
use Rattle.rows.specs.Row.{at_place}
use Rattle.rows.proofs.Sums.{by_test}
use Rattle.table.specs.Table.{arcs}
use Rattle.table.specs.Accepted.{Accepted}
use Rattle.table.specs.Checks.{is_fine, refuse_if, or_else, no_refusal, Verdict}
use Rattle.table.specs.Refusals.{number_of}
use Rattle.table.specs.declared.Name.TheVariants.{Room, Long, Solution}
use Rattle.table.proofs.Faults.{passed, or_else_fine}
use Rattle.table.proofs.Numbers.{number_positive}
use Rattle.minimums.specs.BoundedTable.{BoundedTable}
use Rattle.minimums.specs.Checks.{plain_check}
use Rattle.minimums.proofs.Accepting.{plain_accepts}
use Rattle.intake.specs.Verdict.{text_verdict}
use Rattle.wording.specs.Text.{solution_text, Within, IsSolution}
use Rattle.wording.specs.Lines.{Words, words, stop, text_words, FirstWrong}
use Rattle.wording.proofs.Speaking.{first_within, text_says, says_text, text_short, text_front}
use Rattle.wording.proofs.Stopping.{stops_first}
use Rattle.solution.specs.Writing.{first_above, writing_verdict, writing_as, writing, written_with}
use Rattle.solution.specs.Writing.{left as left_written}
use Rattle.solution.specs.Reading.{Left, left, back_with, left_by, reading_as, reading}
use Rattle.solution.proofs.Writing.{verdict_numbers, flow_long, numbers_fine, writes_fine}

-- A table that passes its checks, read with room for its flows.
module _ (b : BoundedTable) (fine : is_fine (plain_check b true) ≡ true) (lent : List ℕ) (room : arcs b.table ≤ length lent) where
  -- It is accepted.
  passes : Accepted b.table
  passes = (plain_accepts b true fine).0

  -- What the text says is all that is asked of it.
  abbrev said : (text : List ℕ) → Words
  said = text_words b.table.tails b.table.heads b.table.capacities

  -- Nothing is refused before the text is read.
  reads_on : (text : List ℕ) → length text ≤ 1048576 → reading b text lent ≡ left_by (said text) lent
  unfolding reading reading_as text_verdict
  reads_on text short = rw (le-ltb 1048576 (length text) short, or_else_fine (plain_check b true) _ fine, le-leb (arcs b.table) (length lent) room) refl

  -- A text of some value and some row within the capacities is read as these.
  pub reads_solution : (text : List ℕ) (value : ℕ) (row : List ℕ) → IsSolution b.table text value row → reading b text lent ≡ left (back_with 0 0 value) (row ++ drop (arcs b.table) lent)
  unfolding left_by
  reads_solution text value row s =
      let long = s.long in
      let short : length text ≤ 1048576 = rw s.is (text_short b.table passes value row) in
      let whole : take (arcs b.table) row ≡ row = take_all (arcs b.table) row (omega arith) in
      reads_on text short ∙ rw (s.is, text_says b.table passes value row s.value_fits (omega arith) s.within, whole, long) refl

  -- A text that is read is not too long.
  read_short : (text : List ℕ) → (reading b text lent).back.refusal ≡ 0 → length text ≤ 1048576
  unfolding reading reading_as text_verdict
  read_short text e =
      let others = or_else (plain_check b true) (refuse_if (not (leb (arcs b.table) (length lent))) Room 0 no_refusal) in
      by_test (ltb 1048576 (length text))
      (λ h. absurd (number_positive Long (sym (ap (λ (x : Bool). (reading_as (refuse_if x Long 0 others) b.table text lent).back.refusal) h) ∙ e)))
      (λ h. ltb-false _ _ h)

  -- A text that is read is that of some value and some row within the capacities: those that are given.
  pub solution_read : (text : List ℕ) → (reading b text lent).back.refusal ≡ 0
      → (value : ℕ) × (row : List ℕ) × IsSolution b.table text value row × (reading b text lent ≡ left (back_with 0 0 value) (row ++ drop (arcs b.table) lent))
  unfolding left_by
  solution_read text e =
      let on = reads_on text (read_short text e) in
      by_words (said text) refl on (sym (ap (λ (l : Left). l.back.refusal) on) ∙ e)
    where
      by_words : (w : Words) → said text ≡ w → reading b text lent ≡ left_by w lent → (left_by w lent).back.refusal ≡ 0
          → (value : ℕ) × (row : List ℕ) × IsSolution b.table text value row × (reading b text lent ≡ left (back_with 0 0 value) (row ++ drop (arcs b.table) lent))
      by_words (stop line) f on z = absurd (number_positive Solution z)
      by_words (words value row) f on z =
          let solution = says_text b.table passes text value row f in
          (value, row, solution, on ∙ rw solution.long refl)

  -- A text that is refused as SOLUTION is not too long.
  refused_short : (text : List ℕ) → (reading b text lent).back.refusal ≡ number_of Solution → length text ≤ 1048576
  unfolding reading reading_as text_verdict
  refused_short text e =
      let others = or_else (plain_check b true) (refuse_if (not (leb (arcs b.table) (length lent))) Room 0 no_refusal) in
      by_test (ltb 1048576 (length text))
      (λ h.
      let other : number_of Long ≡ number_of Solution = sym (ap (λ (x : Bool). (reading_as (refuse_if x Long 0 others) b.table text lent).back.refusal) h) ∙ e in
      absurd (omega arith))
      (λ h. ltb-false _ _ h)

  -- It is refused at the first line that no solution text of the table has there.
  pub solution_first : (text : List ℕ) → (reading b text lent).back.refusal ≡ number_of Solution → FirstWrong b.table text (reading b text lent).back.place
  unfolding left_by
  solution_first text e =
      let on = reads_on text (refused_short text e) in
      subst⁻¹ (λ (l : Left). FirstWrong b.table text l.back.place) on (by_words (said text) refl (sym (ap (λ (l : Left). l.back.refusal) on) ∙ e))
    where
      by_words : (w : Words) → said text ≡ w → (left_by w lent).back.refusal ≡ number_of Solution → FirstWrong b.table text (left_by w lent).back.place
      by_words (words value row) f z = absurd (omega arith)
      by_words (stop line) f z = stops_first b.table passes text line f

-- Where no flow is above its capacity all are within.
above_within : (place : ℕ) (capacities flow : List ℕ) → length capacities ≤ length flow → is_fine (first_above place capacities flow) ≡ true → Within capacities flow
unfolding first_above
above_within place [] flow long e = λ k l. absurd (omega arith)
above_within place (c ∷ cs) [] long e = absurd (omega arith)
above_within place (c ∷ cs) (f ∷ fs) long e =
    let (here, more) = passed _ _ _ _ e in
    first_within f c fs cs (ltb-false _ _ here) (above_within (suc place) cs fs (omega arith) more)

-- Reading what writing wrote gives the value and the row that went in.
pub read_written : (b : BoundedTable) (value : ℕ) (flow text lent : List ℕ) → (writing b value flow text).written.refusal ≡ 0 → arcs b.table ≤ length lent
    → reading b (take (writing b value flow text).written.filled (writing b value flow text).text) lent ≡ left (back_with 0 0 value) (take (arcs b.table) flow ++ drop (arcs b.table) lent)
unfolding writing writing_as
read_written b value flow text lent e room = by_verdict (writing_verdict b value flow (length text)) refl e
  where
    by_verdict : (v : Verdict) → writing_verdict b value flow (length text) ≡ v → (writing_as v b.table value flow text).written.refusal ≡ 0
        → reading b (take (writing_as v b.table value flow text).written.filled (writing_as v b.table value flow text).text) lent
        ≡ left (back_with 0 0 value) (take (arcs b.table) flow ++ drop (arcs b.table) lent)
    by_verdict (Err why) f z = absurd (number_positive why.name z)
    by_verdict (Ok _) f z =
        let w = writes_fine b value flow (length text) no_refusal (sym f) refl in
        let written = solution_text b.table value flow in
        let row = take (arcs b.table) flow in
        let whole : row ++ drop (arcs b.table) flow ≡ flow = take-append-drop (arcs b.table) flow in
        let long : length row ≡ arcs b.table = length-take-le (arcs b.table) flow w.room in
        let all_within = above_within 0 b.table.capacities flow w.room w.none_above in
        let solution : IsSolution b.table written value row =
        record {
          value_fits = w.value_fits;
          long = long;
          within = λ k l. subst (λ x. x ≤ at_place b.table.capacities k) (ap (λ (r : List ℕ). at_place r k) (sym whole) ∙ get_or-append row (drop (arcs b.table) flow) 0 k (omega arith)) (all_within k l);
          is = ap (λ (r : List ℕ). solution_text b.table value r) (sym whole) ∙ text_front b.table value row (drop (arcs b.table) flow) (long ∙ w.accepted.rows.capacities_long);
        } in
        rw (take_at written (drop (length written) text) (length written) refl) (reads_solution b w.checked lent room written value row solution)

-- Flows that are all within their capacities.
within_fine : (place : ℕ) (capacities flow : List ℕ) → Within capacities flow → no_refusal ≡ first_above place capacities flow
unfolding first_above
within_fine place [] flow h = refl
within_fine place (c ∷ cs) [] h = refl
within_fine place (c ∷ cs) (f ∷ fs) h =
    rw (le-ltb c f (h 0 (omega arith))) (within_fine (suc place) cs fs (λ k l. h (suc k) (omega arith)))

-- The solution of a value and a row within the capacities, written into a row with room for its text.
pub writes_solution : (b : BoundedTable) → is_fine (plain_check b true) ≡ true → (text : List ℕ) (value : ℕ) (row rest : List ℕ) → IsSolution b.table text value row
    → (other : List ℕ) → length text ≤ length other → writing b value (row ++ rest) other ≡ left_written (written_with 0 0 (length text)) (text ++ drop (length text) other)
unfolding writing writing_as
writes_solution b fine text value row rest s other fits =
    let t = b.table in
    let ok = (plain_accepts b true fine).0 in
    let flow = row ++ rest in
    let long = s.long in
    let is : solution_text t value flow ≡ text = text_front t value row rest (long ∙ ok.rows.capacities_long) ∙ sym s.is in
    let within : Within t.capacities flow = λ k l. rw (get_or-append row rest 0 k (omega arith)) (s.within k l) in
    let numbers = numbers_fine t.capacities value flow (within_fine 0 t.capacities flow within) refl s.value_fits in
    let room = flow_long t value flow (length other) (rw length-append (omega arith)) (length text) (ap length (sym is)) in
    let verdict : no_refusal ≡ writing_verdict b value flow (length other) = verdict_numbers b value flow (length other) refl fine room (le-leb (length text) (length other) fits) numbers in
    rw (← verdict, is) refl

-- What was read, written again into a row with room for it, is the same text.
pub written_again : (b : BoundedTable) → is_fine (plain_check b true) ≡ true → (text lent : List ℕ) → arcs b.table ≤ length lent → (reading b text lent).back.refusal ≡ 0
    → (other : List ℕ) → length text ≤ length other
    → writing b (reading b text lent).back.value (reading b text lent).flow other ≡ left_written (written_with 0 0 (length text)) (text ++ drop (length text) other)
written_again b fine text lent room e other fits =
    let (value, row, solution, same) = solution_read b fine lent room text e in
    ap (λ (l : Left). writing b l.back.value l.flow other) same ∙ writes_solution b fine text value row (drop (arcs b.table) lent) solution other fits
