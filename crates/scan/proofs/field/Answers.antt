-- `field` meets its contract: the field behind `passed` of them stands from `start` to `stop`.
use mathlib.Core.Path.{refl}
use native.Mathlib.Omega.{arith}
use lib.ListN.{length}
use Rattle.scan.proofs.Fielding.{passed_first, first_here, later_none, passed_next, next_here}
use Rattle.scan.proofs.field.Goals as goal

pub loop-passed-init : goal.loop-passed-init
loop-passed-init c =
    let line = c.args.line.now in
    (refl, omega arith, passed_first line c.run_end-stop.result c.run_end-stop.ensures, first_here line c.run_end-stop.result c.run_end-stop.ensures)

pub returns-then-end-start : goal.returns-then-end-start
returns-then-end-start c =
    let a = c.args in
    later_none c.loop-passed.invariant.2 c.run_end-start.result c.run_end-start.ensures a.k (length a.line.now) _ c.if-end-start.true (omega arith)

pub loop-passed-preserved : goal.loop-passed-preserved
loop-passed-preserved c =
    let w = c.loop-passed.invariant.2 in
    let goes = passed_next w c.run_end-start.result c.run_end-start.ensures c.run_end-stop-in-loop-passed.result c.run_end-stop-in-loop-passed.ensures c.if-end-start.false in (
      refl,
      omega (arith, goes.1),
      goes.0,
      next_here w c.run_end-start.result c.run_end-start.ensures c.run_end-stop-in-loop-passed.result c.run_end-stop-in-loop-passed.ensures c.if-end-start.false,
    )
