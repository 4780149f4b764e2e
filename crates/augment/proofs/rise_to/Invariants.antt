-- `rise_to` meets its contract. The invariant: what the first p arcs of the list let the label rise to. The measure is what is left of the list.
use Rattle.augment.proofs.Rising.{Rising}
use Rattle.shortest.specs.Rows.{bounded_ways}
use Rattle.minimums.specs.BoundedTable.{bounded_in}
use Rattle.augment.proofs.rise_to.Given as goal

abbrev pub invariant-loop-place : goal.invariant-loop-place
invariant-loop-place l = Rising (bounded_ways (bounded_in l.bounded) l.flow) l.bounded.table.nodes l.dist l.list l.i l.least l.place-index
