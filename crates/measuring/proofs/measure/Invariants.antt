-- `measure` meets its contract. The loop's invariant: the nodes that have a distance are noted, and those before `at` are done with. The measure is what is left of the nodes.
use Prim.Native.Nat.{◌-◌}
use Rattle.measuring.specs.Noted.{front_of}
use Rattle.measuring.proofs.Visiting.{Going}
use Rattle.shortest.specs.Rows.{bounded_ways}
use Rattle.minimums.specs.BoundedTable.{bounded_in}
use Rattle.measuring.proofs.measure.Given as goal

abbrev pub invariant-loop-at : goal.invariant-loop-at
invariant-loop-at l =
    Going (bounded_ways (bounded_in l.bounded) l.flow) l.bounded.table.nodes l.bounded.table.sink l.at (front_of l.dist l.noted)

abbrev pub decreases-loop-at : goal.decreases-loop-at
decreases-loop-at l = l.bounded.table.nodes - l.at
