-- What reading returns and leaves, by each of its tests.
use Prim.Native.Nat.{ℕ, ◌+◌, ◌-◌, ◌<◌, ◌≤◌}
use mathlib.Core.Path.{◌≡◌, refl, subst, ◌∙◌}
use mathlib.Core.List.{List}
use native.Mathlib.Omega.{arith}
use lib.Dec.{leb}
use lib.ListN.{length, take, drop}
use lib.Seq.{sets, length-take-le}
use borrow.Author.Tests.{leb-true}
use Rattle.std.specs.Prelude.{Some, None, Result, Ok, Err, ⊤}
use Rattle.rows.proofs.Storing.{sets_front}
use Rattle.table.specs.Table.{arcs}
use Rattle.table.specs.Accepted.{Accepted}
use Rattle.table.specs.Refusals.{number_of}
use Rattle.table.specs.declared.Name.{Name}
use Rattle.table.specs.declared.Name.TheVariants.{Solution}
use Rattle.minimums.specs.BoundedTable.{BoundedTable}
use Rattle.intake.specs.Verdict.{text_verdict}
use Rattle.intake.proofs.Verdicts.{text_accepts}
use Rattle.scan.specs.Parts.{LF, up_to}
use Rattle.wording.specs.Text.{value_front, most_value}
use Rattle.wording.specs.Lines.{Said, flows, nothing, flows_said, number_behind, first_number, words_of, words_from, text_words}
use Rattle.wording.proofs.Saying.{number_here, number_open, rest_here}
use Rattle.scan.specs.declared.Fault.{Fault}
use Rattle.solution.specs.declared.ReadBack.{ReadBack}
use Rattle.solution.specs.Reading.{left, back_with, left_by, reading_as, reading}
use Rattle.solution.specs.Rows.{Finds}
use Rattle.table.specs.Checks.{no_refusal, refused, Verdict}

-- What was found of the lines, and what is returned and left of it.
module _ (said : Said) (lines : Result ⊤ Fault) (m : ℕ) (row : List ℕ) (found : Finds said lines m row) (value : ℕ) (flow : List ℕ) where
  -- A line that no solution text has there,
  pub found_stop : (fault : Fault) (back : ReadBack) → lines ≡ Err fault → back ≡ back_with (number_of Solution) fault.line 0 → left back flow ≡ left_by (words_of value said) flow
  unfolding left_by words_of
  found_stop fault back e b =
      let s : said ≡ nothing fault.line = subst (λ (l : Result ⊤ Fault). Finds said l m row) e found in
      rw (s, b) refl

  -- or all flows, stored at the front of the flow row.
  pub found_all : (value' : ℕ) (flow' : List ℕ) → lines ≡ Ok tt → m ≤ length row → m ≤ length flow → value' ≡ value → flow' ≡ sets flow 0 (take m row)
      → left (back_with 0 0 value') flow' ≡ left_by (words_of value said) flow
  unfolding left_by words_of
  found_all value' flow' e fits room v f =
      let s : said ≡ flows (take m row) = subst (λ (l : Result ⊤ Fault). Finds said l m row) e found in
      rw (s, v, f, sets_front flow (take m row) (omega (arith, length-take-le m row fits))) refl

-- What a text says, by its first line.
module _ (tails heads capacities text flow : List ℕ) (end : ℕ) (here : end ≡ 0 + up_to LF (drop 0 text)) where
  -- Its first line has no LF,
  pub text_open : (back : ReadBack) → back ≡ back_with (number_of Solution) 1 0 → length text ≤ end → left back flow ≡ left_by (text_words tails heads capacities text) flow
  unfolding text_words words_from left_by
  text_open back b h = rw (number_open text 0 end here value_front most_value h (omega arith), b) refl

  -- or is no line of a value,
  pub text_none : (back : ReadBack) → back ≡ back_with (number_of Solution) 1 0 → end < length text → number_behind value_front most_value (take end text) ≡ None
      → left back flow ≡ left_by (text_words tails heads capacities text) flow
  unfolding text_words words_from left_by
  text_none back b h e =
      let all : end - 0 ≡ end = omega arith in
      let first : first_number value_front most_value text ≡ None = number_here text 0 end here value_front most_value h ∙ rw all e in
      rw (first, b) refl

  -- or says the value, and the lines of the arcs follow.
  pub text_value : (value : ℕ) → end < length text → number_behind value_front most_value (take end text) ≡ Some value
      → left_by (words_of value (flows_said tails heads capacities 2 (drop (end + 1) text))) flow ≡ left_by (text_words tails heads capacities text) flow
  unfolding text_words words_from
  text_value value h e =
      let all : end - 0 ≡ end = omega arith in
      let first : first_number value_front most_value text ≡ Some value = number_here text 0 end here value_front most_value h ∙ rw all e in
      rw (first, rest_here text 0 end here) refl

module _ (b : BoundedTable) (text flow : List ℕ) (v : Verdict) (verdict : v ≡ text_verdict b (length text) (leb (arcs b.table) (length flow))) where
  -- A refusal before the text is read.
  pub reading_refused : (back : ReadBack) (name : Name) (place : ℕ) → v ≡ refused name place → back ≡ back_with (number_of name) place 0 → left back flow ≡ reading b text flow
  unfolding reading reading_as
  reading_refused back name place e f = rw (← verdict, e, f) refl

  -- None.
  pub reading_fine : v ≡ no_refusal → left_by (text_words b.table.tails b.table.heads b.table.capacities text) flow ≡ reading b text flow
  unfolding reading reading_as
  reading_fine e = rw (← verdict, e) refl

  -- The table is accepted then, with room for its flows.
  pub reading_accepts : v ≡ no_refusal → Accepted b.table × (arcs b.table ≤ length flow)
  reading_accepts e = let (ok, room) = text_accepts b _ _ v verdict e in (ok, leb-true _ _ room)
