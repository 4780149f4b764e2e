-- `judge_lines` meets its contract: judging all lines is judging those from `start` on with the progress so far.
use Prim.Native.Nat.{◌≤◌}
use mathlib.Core.Path.{sym, ap, ◌∙◌}
use native.Mathlib.Omega.{arith}
use lib.ListN.{length}
use Rattle.std.specs.Prelude.{Err}
use Rattle.text.proofs.Judging.{line_within, judge_on, judge_stop, judge_end}
use Rattle.text.proofs.judge_lines.Goals as goal

pub slice_bounds-line_kind-end : goal.slice_bounds-line_kind-end
slice_bounds-line_kind-end c =
    let within : c.find-end.result ≤ length c.args.text.now = line_within c.args.text.now c.loop-start.start _ (omega arith) c.find-end.ensures in
    within

pub returns-in-Err : goal.returns-in-Err
returns-in-Err c =
    ap Err c.at.ensures
    ∙ sym (c.loop-start.invariant.2 ∙ judge_stop c.args.text.now c.loop-start.start c.find-end.result c.loop-start.p c.loop-start.place c.loop-start-test.true c.find-end.ensures
    c.line_kind-kind.ensures c.take_line.ensures c.in-Err.is)

pub loop-start-preserved : goal.loop-start-preserved
loop-start-preserved c = (
  omega (arith, line_within c.args.text.now c.loop-start.start _ (omega arith) c.find-end.ensures),
  omega (arith, c.find-end.ensures),
  c.loop-start.invariant.2 ∙ judge_on c.args.text.now c.loop-start.start c.find-end.result c.loop-start.p c.loop-start.place c.loop-start-test.true c.find-end.ensures
      c.line_kind-kind.ensures c.take_line.ensures c.in-Ok.is,
)

pub returns : goal.returns
returns c =
    c.end_step.ensures ∙ sym (c.loop-start.invariant.2 ∙ judge_end c.args.text.now c.loop-start.start c.loop-start.p c.loop-start.place c.loop-start-test.false)
