-- `visit` meets its contract. The loop's invariant: what was done so far is `look_to` over the first places of the list, and there is room for more.
use mathlib.Core.Path.{◌≡◌}
use Rattle.measuring.specs.Visits.{look_to}
use Rattle.measuring.specs.Noted.{front_of}
use Rattle.measuring.proofs.Visiting.{Moved}
use Rattle.shortest.specs.Rows.{bounded_ways}
use Rattle.minimums.specs.BoundedTable.{bounded_in}
use Rattle.measuring.proofs.visit.Given as goal

abbrev pub invariant-loop-k : goal.invariant-loop-k
invariant-loop-k l =
    Moved l.bounded.table.nodes l.d (front_of l.initial.dist l.initial.noted) (front_of l.dist l.noted)
    × (front_of l.dist l.noted ≡ look_to (bounded_ways (bounded_in l.bounded) l.flow) l.bounded.table.nodes l.d l.j l.list l.k-index (front_of l.initial.dist l.initial.noted))
