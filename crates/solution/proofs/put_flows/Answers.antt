use native.Mathlib.Omega.{arith}
use Rattle.pen.proofs.Writing.{partly_more, partly_all}
use Rattle.wording.proofs.Lengths.{lines_here, lines_end}
use Rattle.solution.proofs.put_flows.Goals as goal

pub loop-place-preserved : goal.loop-place-preserved
loop-place-preserved c =
    let a = c.args in
    partly_more c.loop-place.invariant c.put_flow-end.ensures (lines_here a.tails.now a.heads.now a.flow.now c.loop-place.place (omega arith) (omega arith) (omega arith))

pub returns : goal.returns
returns c =
    let a = c.args in
    partly_all (lines_end a.tails.now a.heads.now a.flow.now c.loop-place.place c.loop-place-test.false) c.loop-place.invariant
