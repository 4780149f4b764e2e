-- `fill_capacities` meets its contract. The invariant: the first k places are written.
use Rattle.joining.proofs.Blocks.{written_none, written_next}
use native.Mathlib.Omega.{arith}
use Rattle.joining.proofs.fill_capacities.Goals as goal

pub loop-k-init : goal.loop-k-init
loop-k-init c = written_none _ _

pub loop-k-preserved : goal.loop-k-preserved
loop-k-preserved c = written_next _ _ _ _ c.loop-k.invariant _ (omega arith) c.capacity_at.ensures
