-- `fill` meets its contract. The loop's invariant: the first p arcs are filled, and what is left fits. The measure is what is left of the chain.
use Rattle.augment.proofs.Pouring.{Poured}
use Rattle.shortest.specs.Rows.{bounded_network}
use Rattle.minimums.specs.BoundedTable.{bounded_in}
use Rattle.augment.proofs.fill.Given as goal

abbrev pub invariant-loop-place : goal.invariant-loop-place
invariant-loop-place l =
    Poured (bounded_network (bounded_in l.bounded)) l.d l.bounded.table.source l.chain l.initial.flow l.flow l.i l.place-index
