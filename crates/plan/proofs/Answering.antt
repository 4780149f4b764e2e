-- What checking a plan answers, by each of its tests.
use Prim.Native.Nat.{ℕ, ◌≤◌}
use mathlib.Core.Path.{◌≡◌}
use mathlib.Core.List.{List}
use lib.Dec.{leb}
use lib.ListN.{length}
use borrow.Author.Tests.{leb-true}
use Rattle.std.specs.Prelude.{Ok, Err}
use Rattle.table.specs.Table.{Table}
use Rattle.table.specs.Accepted.{Accepted}
use Rattle.table.specs.Checks.{or_else, no_refusal, refused, Verdict}
use Rattle.table.specs.Refusals.{number_of}
use Rattle.table.specs.declared.Name.{Name}
use Rattle.table.specs.declared.Name.TheVariants.{Solution}
use Rattle.minimums.specs.BoundedTable.{BoundedTable}
use Rattle.scan.specs.Parts.{lines}
use Rattle.intake.specs.Verdict.{text_verdict}
use Rattle.intake.proofs.Verdicts.{text_accepts, text_not_long}
use Rattle.scan.specs.declared.Fault.{Fault}
use Rattle.amounts.specs.Lines.{judged, amounts_of}
use Rattle.sharing.specs.Full.{Full}
use Rattle.plan.specs.declared.Checked.{Checked}
use Rattle.plan.specs.Checking.{lines_verdict, plan_verdict, checked_with, Flags, Answers, Checks}

module _ (t : Table) (text side : List ℕ) (r : Checked) where
  -- A line is at fault,
  pub answers_fault : (fault : Fault) → judged text ≡ Err fault → r ≡ checked_with (number_of Solution) fault.line 0 → Answers (lines_verdict (judged text)) (judged text) t text side r
  unfolding Answers lines_verdict
  answers_fault fault e b = rw e b

  -- or the lines say a value.
  pub answers_says : (value : ℕ) → judged text ≡ Ok value → r ≡ checked_with 0 0 r.full → Flags r.full (Full t value (amounts_of (lines text)) side)
      → Answers (lines_verdict (judged text)) (judged text) t text side r
  unfolding Answers lines_verdict
  answers_says value e b f = rw e (b, f)

-- The verdict before the text is read.
module _ (b : BoundedTable) (text side : List ℕ) (v : Verdict) (verdict : v ≡ text_verdict b (length text) (leb b.table.nodes (length side))) where
  -- It refuses,
  pub plan_refused : (r : Checked) (name : Name) (place : ℕ) → v ≡ refused name place → r ≡ checked_with (number_of name) place 0 → Checks b text side r
  unfolding Answers plan_verdict or_else
  plan_refused r name place e f = rw (← verdict, e) f

  -- or the text tells.
  pub plan_fine : (r : Checked) → v ≡ no_refusal → Answers (lines_verdict (judged text)) (judged text) b.table text side r → Checks b text side r
  unfolding plan_verdict or_else
  plan_fine r e a = rw (← verdict, e) a

  -- The table is accepted then, the side row has n marks, and the text is not too long.
  pub plan_accepts : v ≡ no_refusal → Accepted b.table × (b.table.nodes ≤ length side) × (length text ≤ 1048576)
  plan_accepts e =
      let (ok, room) = text_accepts b _ _ v verdict e in
      (ok, leb-true _ _ room, text_not_long b _ _ v verdict e)
