-- `sum_at` meets its contract. The invariant: `sum` is the sum over the places below k.
use Rattle.start.proofs.Scaling.{sum_on, sum_past}
use Rattle.rows.specs.Sum.{sum}
use lib.ListN.{length}
use mathlib.Core.Path.{◌≡◌, refl}
use native.Mathlib.Omega.{arith}
use borrow.Author.Rules.{rules}
use Rattle.start.proofs.sum_at.Goals as goal
use Rattle.start.proofs.sum_at.Goals.{then-ends-k, else-ends-k}

pub loop-k-init : goal.loop-k-init
unfolding sum
loop-k-init c = (refl, search rules)

pub loop-k-preserved : goal.loop-k-preserved
loop-k-preserved c =
    let given = c.args in (
      elim c.if-ends-k.branch [
        | then-ends-k w ↦ omega (arith, w.sum-is, sum_on given.ends.now given.flow.now given.i c.loop-k.k w.if-ends-k.true)
        | else-ends-k w ↦ omega (arith, w.sum-is, sum_past given.ends.now given.flow.now given.i c.loop-k.k w.if-ends-k.false)
      ],
      elim c.if-ends-k.branch [ then-ends-k w ↦ omega arith | else-ends-k w ↦ omega arith ],
    )

pub returns : goal.returns
returns c =
    let all : c.loop-k.k ≡ length c.args.ends.now = omega arith in
    rw (← all) c.loop-k.invariant.0
