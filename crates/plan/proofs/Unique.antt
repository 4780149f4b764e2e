-- What the promise leaves open: nothing.
use Prim.Native.Nat.{ℕ}
use mathlib.Core.Path.{◌≡◌, sym, ap, ◌∙◌}
use mathlib.Core.List.{List}
use native.Mathlib.Omega.{arith}
use lib.ListN.{length}
use Rattle.std.specs.Prelude.{Result, Ok, Err}
use Rattle.rows.proofs.Sums.{by_equal}
use Rattle.table.specs.Table.{Table}
use Rattle.minimums.specs.BoundedTable.{BoundedTable}
use Rattle.scan.specs.Parts.{lines}
use Rattle.scan.specs.declared.Fault.{Fault}
use Rattle.amounts.specs.Lines.{judged, amounts_of}
use Rattle.sharing.specs.Full.{Full}
use Rattle.plan.specs.declared.Checked.{Checked}
use Rattle.plan.specs.Checking.{plan_verdict, checked_with, Flags, Answers, Checks}
use Rattle.table.specs.Checks.{Verdict}

-- A flag of the same thing is the same.
flags_once : (P : Type 0) (a b : ℕ) → Flags a P → Flags b P → a ≡ b
flags_once P a b f g =
    by_equal a 1 (λ e. e ∙ sym (g.told (f.holds e)))
    (λ other. by_equal b 1 (λ e. absurd (other (f.told (g.holds e)))) (λ none. omega (arith, f.one_or_none, g.one_or_none)))

-- Two answers to the same verdict and lines are equal,
answers_once : (verdict : Verdict) (said : Result ℕ Fault) (t : Table) (text side : List ℕ) (r q : Checked) → Answers verdict said t text side r → Answers verdict said t text side q → r ≡ q
unfolding Answers
answers_once (Err why) said t text side r q a b = a ∙ sym b
answers_once (Ok _) (Err fault) t text side r q a b = absurd a
answers_once (Ok _) (Ok value) t text side r q a b = a.0 ∙ ap (checked_with 0 0) (flags_once (Full t value (amounts_of (lines text)) side) r.full q.full a.1 b.1) ∙ sym b.0

-- so results that meet the promise are equal.
pub check_plan_unique : (b : BoundedTable) (text side : List ℕ) (r q : Checked) → Checks b text side r → Checks b text side q → r ≡ q
check_plan_unique b text side r q x y = answers_once (plan_verdict b text (length side)) (judged text) b.table text side r q x y
