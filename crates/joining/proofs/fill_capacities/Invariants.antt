-- `fill_capacities` meets its contract. The invariant: the first k places are written.
use Rattle.joining.specs.Joining.{capacity_at}
use Rattle.joining.proofs.Blocks.{Written}
use Rattle.joining.proofs.fill_capacities.Given as goal

abbrev pub invariant-loop-k : goal.invariant-loop-k
invariant-loop-k l = Written (capacity_at l.capacities l.minimums l.entering l.leaving) l.initial.row l.row l.k
