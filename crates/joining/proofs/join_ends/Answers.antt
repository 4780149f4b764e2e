-- `join_ends` meets its contract. The invariant: the first k places of both rows are written.
use native.Mathlib.Omega.{arith}
use Rattle.joining.proofs.Blocks.{written_none, written_next}
use Rattle.joining.proofs.join_ends.Goals as goal

pub loop-k-init : goal.loop-k-init
loop-k-init c = (written_none _ _, written_none _ _)

pub loop-k-preserved : goal.loop-k-preserved
loop-k-preserved c = (
  written_next _ _ _ _ c.loop-k.invariant.0 _ (omega arith) c.ends_at-ends.ensures.tail,
  written_next _ _ _ _ c.loop-k.invariant.1 _ (omega arith) c.ends_at-ends.ensures.head,
)
