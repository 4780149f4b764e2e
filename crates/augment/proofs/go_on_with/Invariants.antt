-- `go_on_with` meets its contract. The invariant: the rows stay ready, lead to the same end, and what is known of the labels holds. The measure is what the capacities out of the source still allow.
use mathlib.Core.Path.{◌≡◌}
use Rattle.shortest.specs.Augment.{settled}
use Rattle.shortest.specs.Rows.{Ready, bounded_ways, bounded_network}
use Rattle.augment.specs.Walks.{Known}
use Rattle.augment.proofs.Extending.{left}
use Rattle.minimums.specs.BoundedTable.{bounded_in}
use Rattle.augment.proofs.go_on_with.Given as goal

abbrev pub invariant-loop : goal.invariant-loop
invariant-loop l =
    (Ready (bounded_in l.bounded) l.flow × (settled (bounded_network (bounded_in l.bounded)) l.flow ≡ settled (bounded_network (bounded_in l.bounded)) l.initial.flow))
    × Known (bounded_ways (bounded_in l.bounded) l.flow) l.bounded.table.nodes l.bounded.table.sink l.dist l.lowest l.far

abbrev pub decreases-loop : goal.decreases-loop
decreases-loop l = left (bounded_network (bounded_in l.bounded)) l.flow
