-- `walk` meets its contract. The loop's invariant: the first p places are there, and the chain goes on from node i; and once one arc was taken, the capacities are known to fit 32 bits. The measure is the label.
use Rattle.augment.proofs.Walking.{Walking}
use Prim.Native.Nat.{ℕ, ◌≤◌, ◌<◌}
use Rattle.rows.specs.Row.{at_place}
use Rattle.shortest.specs.Rows.{bounded_network}
use Rattle.minimums.specs.BoundedTable.{bounded_in}
use Rattle.augment.proofs.walk.Given as goal

abbrev pub invariant-loop-d : goal.invariant-loop-d
invariant-loop-d l =
    Walking (bounded_network (bounded_in l.bounded)) l.flow l.dist l.initial.chain l.lowest l.far l.chain l.i l.d l.least l.p
    × (0 < l.p → (k : ℕ) → at_place l.bounded.table.capacities.now k ≤ 4294967295)

abbrev pub decreases-loop-d : goal.decreases-loop-d
decreases-loop-d l = l.d
