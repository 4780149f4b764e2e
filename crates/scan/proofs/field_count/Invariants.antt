-- `field_count` meets its contract: the walk stands behind as many fields as it counted.
use Prim.Native.Nat.{◌-◌}
use lib.ListN.{length}
use Rattle.scan.proofs.Fielding.{Passed}
use Rattle.scan.proofs.field_count.Given as goal

abbrev pub invariant-loop-count : goal.invariant-loop-count
invariant-loop-count l = Passed l.line l.stop l.count

abbrev pub decreases-loop-count : goal.decreases-loop-count
decreases-loop-count l = length l.line - l.stop
