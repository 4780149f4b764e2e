-- `list_nodes` meets its contract. The loop's invariant: the marked nodes up to k stand in the list, and are counted.
use Prim.Native.Nat.{suc}
use Rattle.reach.specs.Side.{marked}
use Rattle.listing.proofs.Listing.{Gathered}
use Rattle.openings.proofs.list_nodes.Given as goal

abbrev pub invariant-loop-k : goal.invariant-loop-k
invariant-loop-k l = Gathered (marked l.marks) (suc l.k) l.count l.list l.initial.list
