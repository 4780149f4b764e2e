-- `first_above` meets its contract: no minimum below the place is above its capacity.
use native.Mathlib.Omega.{arith}
use borrow.Author.Count.{below_more}
use Rattle.minimums.specs.Checks.{none, first}
use Rattle.minimums.proofs.first_above.Goals as goal

pub loop-place-init : goal.loop-place-init
loop-place-init c = λ k l. absurd (omega arith)

pub returns-then-capacities-place : goal.returns-then-capacities-place
returns-then-capacities-place c = let at = c.loop-place in rw c.at.ensures (first at.place at.place (omega arith) (omega arith) c.if-capacities-place.true at.invariant)

pub loop-place-preserved : goal.loop-place-preserved
loop-place-preserved c = below_more _ _ c.loop-place.invariant c.if-capacities-place.false

pub returns : goal.returns
returns c = none (λ k l. c.loop-place.invariant k (omega arith))
