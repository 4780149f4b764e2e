-- `judge_lines` meets its contract: judging all lines is judging those from `start` on with what was said so far.
use Prim.Native.Nat.{◌≤◌}
use mathlib.Core.Path.{sym, ◌∙◌}
use native.Mathlib.Omega.{arith}
use lib.ListN.{length}
use Rattle.std.proofs.lemmas.Result.{err_from_is_err_and}
use Rattle.scan.specs.Parts.{LF}
use mathlib.Core.Bool.{not}
use lib.Dec.{eqb}
use Rattle.scan.proofs.Parting.{run_within}
use Rattle.amounts.specs.Lines.{end_of}
use Rattle.amounts.proofs.Judging.{judge_on, judge_stop, judge_end}
use Rattle.amounts.proofs.judge_lines.Goals as goal

pub slice_bounds-line_kind-end : goal.slice_bounds-line_kind-end
slice_bounds-line_kind-end c =
    let within : c.find-end.result ≤ length c.args.text.now = omega (arith, c.find-end.ensures, run_within (λ b. not (eqb b LF)) c.args.text.now c.loop-start.start (omega arith)) in
    within

pub returns-in_err-said : goal.returns-in_err-said
returns-in_err-said c =
    let a = c.args in
    let failed = err_from_is_err_and c.from_residual.result c.from_residual.ensures.1 in
    rw (failed.1, failed.2) (sym (c.loop-start.invariant.2 ∙ judge_stop a.text.now c.loop-start.start c.find-end.result c.loop-start.said c.loop-start.line c.loop-start-test.true c.find-end.ensures c.line_kind.ensures c.take_line.ensures c.in_err-said.was))

pub loop-start-preserved : goal.loop-start-preserved
loop-start-preserved c =
    let within : c.find-end.result ≤ length c.args.text.now = omega (arith, c.find-end.ensures, run_within (λ b. not (eqb b LF)) c.args.text.now c.loop-start.start (omega arith)) in
    let a = c.args in
    (omega (arith, within), omega (arith, c.find-end.ensures), c.loop-start.invariant.2 ∙ judge_on a.text.now c.loop-start.start c.find-end.result c.loop-start.said c.loop-start.line c.loop-start-test.true c.find-end.ensures c.line_kind.ensures c.take_line.ensures c.in_ok-said.was)

pub returns : goal.returns
unfolding end_of
returns c =
    let a = c.args in
    c.ok_or.ensures.value ∙ sym (c.loop-start.invariant.2 ∙ judge_end a.text.now c.loop-start.start c.loop-start.said c.loop-start.line c.loop-start-test.false)
