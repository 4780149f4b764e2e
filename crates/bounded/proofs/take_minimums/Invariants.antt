-- `take_minimums` meets its contract. The invariant: the first k places are written, the others as they were.
use Prim.Native.Nat.{◌-◌}
use Rattle.rows.specs.Row.{at_place}
use Rattle.joining.proofs.Blocks.{Written}
use Rattle.bounded.proofs.take_minimums.Given as goal

abbrev pub invariant-loop-k : goal.invariant-loop-k
invariant-loop-k l = Written (λ j. at_place l.flow j - at_place l.minimums j) l.initial.row l.row l.k
