-- `take_minimums` meets its contract. The invariant: the first k places are written, the others as they were.
use mathlib.Core.Path.{refl}
use native.Mathlib.Omega.{arith}
use Rattle.joining.proofs.Blocks.{written_none, written_next}
use Rattle.bounded.proofs.take_minimums.Goals as goal

pub loop-k-init : goal.loop-k-init
loop-k-init c = written_none _ _

pub overflow_sub-row : goal.overflow_sub-row
overflow_sub-row c = omega (arith, c.requires.by_index c.loop-k.k (omega arith))

pub loop-k-preserved : goal.loop-k-preserved
loop-k-preserved c = written_next _ _ _ _ c.loop-k.invariant _ (omega arith) refl
