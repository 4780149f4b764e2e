-- `count_nodes` meets its contract. The loop's invariant: the marked nodes up to the next are counted.
use Prim.Native.Nat.{suc}
use mathlib.Core.Path.{◌≡◌}
use lib.ListN.{length}
use Rattle.reach.specs.Side.{marked}
use Rattle.listing.specs.Passing.{passing}
use Rattle.openings.proofs.count_nodes.Given as goal

abbrev pub invariant-loop-mark : goal.invariant-loop-mark
invariant-loop-mark l = l.count ≡ length (passing (marked l.marks) (suc l.mark-index))
