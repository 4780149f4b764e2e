-- Document 02, CR 8: what checking a plan returns.
use Rattle.std.specs.Prelude.{ℕ, ◌≤◌, ◌≡◌, List, leb, length, Result, Ok, Err}
use Rattle.table.specs.Table.{Table}
use Rattle.table.specs.Checks.{or_else, no_refusal, refused, Verdict}
use Rattle.table.specs.Refusals.{number_of}
use Rattle.table.specs.declared.Name.TheVariants.{Solution}
use Rattle.minimums.specs.BoundedTable.{BoundedTable}
use Rattle.scan.specs.Parts.{lines}
use Rattle.intake.specs.Verdict.{text_verdict}
use Rattle.scan.specs.declared.Fault.{Fault}
use Rattle.amounts.specs.Lines.{judged, amounts_of}
use Rattle.sharing.specs.Full.{Full}
use Rattle.plan.specs.declared.Checked.{Checked}

-- SOLUTION at the first line that is not of its form, or one past the last if there is no `s` line.
unfoldable pub lines_verdict : Result ℕ Fault → Verdict
lines_verdict (Ok value) = no_refusal
lines_verdict (Err fault) = refused Solution fault.line

-- The order: LONG, the table's own checks with BOUNDED, ROOM for a short side row, SOLUTION.
unfoldable pub plan_verdict : BoundedTable → (text : List ℕ) (side : ℕ) → Verdict
plan_verdict b text side = or_else (text_verdict b (length text) (leb b.table.nodes side)) (lines_verdict (judged text))

-- What is returned: a refusal's number and place, or whether the plan is full.
abbrev pub checked_with : (refusal place full : ℕ) → Checked
checked_with refusal place full = record { refusal = refusal; place = place; full = full }

-- A number that is 1 exactly where something holds, and else 0.
pub record Flags (flag : ℕ) (P : Type 0) : Type 0 where
  pub one_or_none : flag ≤ 1
  pub holds : flag ≡ 1 → P
  pub told : P → flag ≡ 1

-- The answer to a plan: a refusal returns its number and place; else 1 exactly where the plan is full for the value that the `s` line says, and 0 elsewhere.
-- (A line at fault is refused, so nothing is said of one that is not.)
unfoldable pub Answers : Verdict → Result ℕ Fault → Table → (text side : List ℕ) → Checked → Type 0
Answers (Err why) said t text side r = r ≡ checked_with (number_of why.name) why.place 0
Answers (Ok _) (Err fault) t text side r = ⊥
Answers (Ok _) (Ok value) t text side r = (r ≡ checked_with 0 0 r.full) × Flags r.full (Full t value (amounts_of (lines text)) side)

-- What checking promises.
abbrev pub Checks : BoundedTable → (text side : List ℕ) → Checked → Type 0
Checks b text side r = Answers (plan_verdict b text (length side)) (judged text) b.table text side r
