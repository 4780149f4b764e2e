-- `find` meets its contract: what stands before the separator from `from` on is what was passed and what stands before it from `at` on.
use mathlib.Core.Path.{◌≡◌, sym, ap, ◌∙◌}
use mathlib.Core.Bool.{not}
use native.Mathlib.Omega.{arith}
use lib.Dec.{eqb}
use borrow.Author.Tests.{eq-eqb, ne_eqb}
use Rattle.scan.proofs.Walk.{run_stop, run_more, run_end}
use Rattle.scan.proofs.find.Goals as goal

pub returns-then-bytes-at : goal.returns-then-bytes-at
returns-then-bytes-at c =
    let a = c.args in
    sym (c.loop-at.invariant.1 ∙ run_stop (λ b. not (eqb b a.sep)) a.bytes.now c.loop-at.at (omega arith) (ap not (eq-eqb _ _ c.if-bytes-at.true)))

pub loop-at-preserved : goal.loop-at-preserved
loop-at-preserved c =
    let a = c.args in
    (omega arith, c.loop-at.invariant.1 ∙ run_more (λ b. not (eqb b a.sep)) a.bytes.now c.loop-at.at (omega arith) (ap not (ne_eqb _ _ c.if-bytes-at.false)))

pub returns : goal.returns
returns c =
    let a = c.args in
    let here : c.max.result ≡ c.loop-at.at = omega (arith, c.max.ensures) in
    here ∙ sym (c.loop-at.invariant.1 ∙ run_end (λ b. not (eqb b a.sep)) a.bytes.now c.loop-at.at c.loop-at-test.false)
