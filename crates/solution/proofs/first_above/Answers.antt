use mathlib.Core.Path.{sym, ◌∙◌}
use native.Mathlib.Omega.{arith}
use Rattle.solution.proofs.Above.{above_here, above_later, above_end}
use Rattle.solution.proofs.first_above.Goals as goal

pub returns-then-capacities-place : goal.returns-then-capacities-place
returns-then-capacities-place c =
    let a = c.args in
    rw c.at.ensures (sym (c.loop-place.invariant ∙ above_here a.capacities.now a.flow.now c.loop-place.place (omega arith) (omega arith) c.if-capacities-place.true))

pub loop-place-preserved : goal.loop-place-preserved
loop-place-preserved c =
    let a = c.args in
    c.loop-place.invariant ∙ above_later a.capacities.now a.flow.now c.loop-place.place (omega arith) (omega arith) c.if-capacities-place.false

pub returns : goal.returns
returns c =
    let a = c.args in
    sym (c.loop-place.invariant ∙ above_end a.capacities.now a.flow.now c.loop-place.place c.loop-place-test.false)
