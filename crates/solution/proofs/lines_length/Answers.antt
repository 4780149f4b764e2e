use mathlib.Core.Path.{ap}
use lib.ListN.{length}
use native.Mathlib.Omega.{arith}
use Rattle.wording.proofs.Lengths.{lines_count, lines_end}
use Rattle.solution.proofs.lines_length.Goals as goal

pub loop-place-preserved : goal.loop-place-preserved
loop-place-preserved c =
    let a = c.args in (
      omega (arith, c.line_length-length.ensures.1),
      omega (arith, c.loop-place.invariant.1, lines_count a.tails.now a.heads.now a.flow.now c.loop-place.place (omega arith) (omega arith) (omega arith), c.line_length-length.ensures.0),
    )

pub returns : goal.returns
returns c =
    let a = c.args in
    omega (arith, c.loop-place.invariant.1, ap length (lines_end a.tails.now a.heads.now a.flow.now c.loop-place.place c.loop-place-test.false))
