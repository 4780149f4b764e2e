use native.Mathlib.Omega.{arith}
use Rattle.pen.proofs.Digits.{digits_most}
use Rattle.wording.proofs.Lengths.{digits_more, digits_one}
use Rattle.solution.proofs.digit_count.Goals as goal

pub overflow_add-count : goal.overflow_add-count
overflow_add-count c = omega (arith, c.loop-left.invariant.1, digits_most 20 c.args.n)

pub loop-left-preserved : goal.loop-left-preserved
loop-left-preserved c =
    (omega arith, omega (arith, c.loop-left.invariant.1, digits_more c.loop-left.left c.loop-left-test.true (omega (arith, c.ranges.n.fits))))

pub returns : goal.returns
returns c =
    omega (arith, c.loop-left.invariant.1, digits_one c.loop-left.left (omega arith), digits_most 20 c.args.n)
