-- `field_count` meets its contract: the walk stands behind as many fields as it counted.
use Prim.Native.Nat.{◌+◌, ◌<◌}
use native.Mathlib.Omega.{arith}
use Rattle.scan.proofs.Fielding.{Passed, passed_first, passed_all, passed_next}
use Rattle.scan.proofs.field_count.Goals as goal

pub loop-count-init : goal.loop-count-init
loop-count-init c = passed_first c.args.line.now c.run_end-stop.result c.run_end-stop.ensures

pub returns-then-line-start : goal.returns-then-line-start
returns-then-line-start c =
    passed_all c.loop-count.invariant c.run_end-start.result c.run_end-start.ensures c.if-line-start.true

pub loop-count-smaller : goal.loop-count-smaller
loop-count-smaller c =
    let going : Passed c.args.line.now c.run_end-stop-in-loop-count.result (c.loop-count.count + 1) × (c.run_end-start.result < c.run_end-stop-in-loop-count.result) = passed_next c.loop-count.invariant c.run_end-start.result c.run_end-start.ensures c.run_end-stop-in-loop-count.result c.run_end-stop-in-loop-count.ensures c.if-line-start.false in
    omega (arith, going, c.run_end-start.ensures)

pub loop-count-preserved : goal.loop-count-preserved
loop-count-preserved c =
    let going : Passed c.args.line.now c.run_end-stop-in-loop-count.result (c.loop-count.count + 1) × (c.run_end-start.result < c.run_end-stop-in-loop-count.result) = passed_next c.loop-count.invariant c.run_end-start.result c.run_end-start.ensures c.run_end-stop-in-loop-count.result c.run_end-stop-in-loop-count.ensures c.if-line-start.false in
    going.0
