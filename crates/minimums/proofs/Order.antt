-- The order of verdicts, by what the code's tests say of the first.
use mathlib.Core.Path.{◌≡◌, sym, ◌∙◌}
use mathlib.Core.Bool.{true, false}
use Rattle.table.specs.Checks.{is_fine, or_else, Verdict}
use Rattle.table.proofs.Faults.{or_else_fine, or_else_refused}

-- A verdict that refuses comes before the next.
pub refuses_first : {found v : Verdict} → found ≡ v → (next : Verdict) → is_fine found ≡ false → found ≡ or_else v next
refuses_first {found} e next f = sym (rw (← e) (or_else_refused found next f))

-- One that refuses nothing gives way to it.
pub gives_way : {found v : Verdict} → found ≡ v → {r next : Verdict} → is_fine found ≡ true → r ≡ next → r ≡ or_else v next
gives_way {found} e {r} {next} f g = g ∙ sym (rw (← e) (or_else_fine found next f))
