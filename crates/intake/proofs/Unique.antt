-- What the promise leaves open: nothing.
use Prim.Native.Nat.{ℕ}
use mathlib.Core.Path.{◌≡◌, sym, ◌∙◌}
use mathlib.Core.Bool.{Bool}
use Rattle.minimums.specs.BoundedTable.{BoundedTable}
use Rattle.intake.specs.Verdict.{text_verdict}
use Rattle.table.specs.Checks.{Verdict}

pub text_verdict_unique : (b : BoundedTable) (text : ℕ) (room : Bool) (x y : Verdict) → x ≡ text_verdict b text room → y ≡ text_verdict b text room → x ≡ y
text_verdict_unique b text room x y p q = p ∙ sym q
