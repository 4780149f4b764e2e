-- `held_at` meets its contract: a sum of small numbers fits 32 bits.
use native.Mathlib.Omega.{arith}
use Rattle.joining.proofs.Sums.{small_sum}
use Rattle.joining.proofs.held_at.Goals as goal

pub overflow_cast-result : goal.overflow_cast-result
overflow_cast-result c = omega (arith, c.sum_at.ensures, small_sum c.requires c.args.i)

pub returns : goal.returns
returns c = (c.sum_at.ensures, omega (arith, c.sum_at.ensures, small_sum c.requires c.args.i))
