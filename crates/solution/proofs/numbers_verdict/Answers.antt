-- `numbers_verdict` meets its contract: the first flow above its capacity, then the value.
use mathlib.Core.Path.{refl, sym, ◌∙◌}
use Rattle.table.proofs.Refusing.{handed_on}
use Rattle.solution.proofs.Writing.{numbers_flow, numbers_value, numbers_fine}
use Rattle.solution.proofs.numbers_verdict.Goals as goal

pub returns-in_err-first_above : goal.returns-in_err-first_above
returns-in_err-first_above c =
    let a = c.args in
    handed_on c.from_residual.result c.from_residual.ensures.1 (λ y is. is) ∙ sym c.in_err-first_above.was
    ∙ numbers_flow a.capacities.now a.value a.flow.now {above = c.first_above.result} c.first_above.ensures (rw c.in_err-first_above.was refl)

pub returns-then-value-gt4096000000 : goal.returns-then-value-gt4096000000
returns-then-value-gt4096000000 c =
    let a = c.args in
    rw c.at.ensures (numbers_value a.capacities.now a.value a.flow.now {above = c.first_above.result} c.first_above.ensures (rw c.in_ok-first_above.was refl) c.if-value-gt4096000000.true)

pub returns : goal.returns
returns c =
    let a = c.args in
    numbers_fine a.capacities.now a.value a.flow.now {above = c.first_above.result} c.first_above.ensures (rw c.in_ok-first_above.was refl) c.if-value-gt4096000000.false
