-- A text that is read gives a table that no check refuses, with m arcs.
use Rattle.std.specs.Prelude.{Ok, Err}
use Prim.Native.Nat.{ℕ}
use mathlib.Core.Path.{◌≡◌, refl, ap, subst}
use mathlib.Core.Bool.{Bool, true, false, cond}
use mathlib.Core.List.{List}
use lib.Dec.{ltb}
use lib.ListN.{length}
use Rattle.table.specs.declared.Name.TheVariants.{Long}
use Rattle.table.specs.Checks.{is_fine, refusal_at, Verdict}
use Rattle.minimums.specs.Checks.{bounded_check}
use Rattle.minimums.proofs.Faults.{bounded_accepts}
use Rattle.scan.specs.Parts.{lines}
use Rattle.text.specs.declared.Header.{Header}
use Rattle.text.specs.Lines.{Given, fresh, judge, arcs_of}
use Rattle.text.specs.Reading.{has_arc_room, text_table, table_verdict, given_as, after_judging, given_by}
use Rattle.text.proofs.Counting.{accepted_count}

-- The text has m arcs, and no check refuses the table it gives.
pub record Accepts (text : List ℕ) (h : Header) : Type 0 where
  pub count : length (arcs_of (lines text)) ≡ h.arcs
  pub passes : is_fine (bounded_check (text_table (lines text) h.nodes h.source h.sink) true) ≡ true

-- What reading gives says so where it is no refusal.
abbrev AcceptsAs : List ℕ → Given → Type 0
AcceptsAs text (Ok h) = Accepts text h
AcceptsAs text (Err why) = Unit {0}

module _ (text : List ℕ) (tails heads capacities minimums : ℕ) where
  -- It says so by what is wrong with the table.
  by_verdict : (h : Header) → length (arcs_of (lines text)) ≡ h.arcs → (v : Verdict) → table_verdict (lines text) h tails heads capacities minimums ≡ v
      → AcceptsAs text (given_as v h)
  unfolding given_as table_verdict
  by_verdict h count (Ok _) e =
      let fine : is_fine (bounded_check (text_table (lines text) h.nodes h.source h.sink) (has_arc_room h.arcs tails heads capacities minimums)) ≡ true = ap is_fine e in
      let room = (bounded_accepts (text_table (lines text) h.nodes h.source h.sink) (has_arc_room h.arcs tails heads capacities minimums) fine).1 in
      record { count = count; passes = subst (λ (b : Bool). is_fine (bounded_check (text_table (lines text) h.nodes h.source h.sink) b) ≡ true) room fine }
  by_verdict h count (Err why) e = tt

  -- It says so by what the lines give.
  by_judging : (j : Given) → judge (lines text) fresh 1 ≡ j → AcceptsAs text (after_judging (lines text) j tails heads capacities minimums)
  unfolding after_judging
  by_judging (Ok h) e = by_verdict h (accepted_count text h e) (table_verdict (lines text) h tails heads capacities minimums) refl
  by_judging (Err why) e = tt

  -- It says so by the text's length.
  by_length : (long : Bool) (rest : Given) → AcceptsAs text rest → AcceptsAs text (cond long (Err (refusal_at Long 0)) rest)
  by_length true rest a = tt
  by_length false rest a = a

  -- It says so.
  given_accepts : AcceptsAs text (given_by text tails heads capacities minimums)
  unfolding given_by
  given_accepts = by_length (ltb 1048576 (length text)) _ (by_judging (judge (lines text) fresh 1) refl)

  -- A text that is read is accepted.
  pub read_accepts : {h : Header} → given_by text tails heads capacities minimums ≡ Ok h → Accepts text h
  read_accepts e = subst (AcceptsAs text) e given_accepts
