-- `run_end` meets its contract: the bytes at the front from `from` on are those passed and those from `at` on.
use mathlib.Core.Path.{◌≡◌, sym, ◌∙◌}
use mathlib.Core.Bool.{true, false, not, beq}
use native.Mathlib.Omega.{arith}
use borrow.Author.Tests.{not-true, not-false}
use Rattle.scan.specs.Parts.{is_separator}
use Rattle.scan.proofs.Walk.{run_stop, run_more, run_end}
use Rattle.scan.proofs.run_end.Goals as goal

pub returns-then-is_separator-are : goal.returns-then-is_separator-are
returns-then-is_separator-are c =
    let a = c.args in
    let h : not (beq c.is_separator.result a.are) ≡ true = c.if-is_separator-are.true in
    sym (c.loop-at.invariant.1 ∙ run_stop (λ b. beq (is_separator b) a.are) a.line.now c.loop-at.at (omega arith) (rw (← c.is_separator.ensures) (not-true _ h)))

pub loop-at-preserved : goal.loop-at-preserved
loop-at-preserved c =
    let a = c.args in
    let h : not (beq c.is_separator.result a.are) ≡ false = c.if-is_separator-are.false in
    (omega arith, c.loop-at.invariant.1 ∙ run_more (λ b. beq (is_separator b) a.are) a.line.now c.loop-at.at (omega arith) (rw (← c.is_separator.ensures) (not-false _ h)))

pub returns : goal.returns
returns c =
    let a = c.args in
    let here : c.max.result ≡ c.loop-at.at = omega (arith, c.max.ensures) in
    here ∙ sym (c.loop-at.invariant.1 ∙ run_end (λ b. beq (is_separator b) a.are) a.line.now c.loop-at.at c.loop-at-test.false)
