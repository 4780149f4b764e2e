-- `put_numbers` meets its contract: all but the numbers from here on are written.
use Rattle.pen.proofs.Spacing.{spaced_here, spaced_end}
use Rattle.pen.proofs.Writing.{partly_more, partly_all}
use native.Mathlib.Omega.{arith}
use Rattle.pen.proofs.put_numbers.Goals as goal

pub loop-number-preserved : goal.loop-number-preserved
loop-number-preserved c =
    let numbers = c.args.numbers.now in
    partly_more c.loop-number.invariant c.put_further-place.ensures (rw c.from.ensures (spaced_here c.loop-number.some numbers c.loop-number.number-index (omega arith)))

pub returns : goal.returns
returns c =
    partly_all (spaced_end c.loop-number.some c.args.numbers.now c.loop-number.number-index c.loop-number-test.false) c.loop-number.invariant
