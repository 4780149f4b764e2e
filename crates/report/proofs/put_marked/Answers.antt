-- `put_marked` meets its contract: all but the marked nodes from here on are written.
use Rattle.report.proofs.Listing.{marked_here, marked_end}
use Rattle.pen.proofs.Writing.{partly_more, partly_all}
use native.Mathlib.Omega.{arith}
use Rattle.report.proofs.put_marked.Goals as goal

pub loop-i-preserved : goal.loop-i-preserved
loop-i-preserved c =
    let side = c.args.side.now in
    partly_more c.loop-i.invariant c.put_mark-place.ensures (rw c.either-some.ensures (marked_here c.loop-i.some side c.loop-i.i (omega arith)))

pub returns : goal.returns
returns c =
    partly_all (marked_end c.loop-i.some c.args.side.now c.loop-i.i c.loop-i-test.false) c.loop-i.invariant
