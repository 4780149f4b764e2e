-- `find` meets its contract: by the labels as they are or rise, by the source's at n, or by the distances. The invariant: what is known of the labels. The measure is the number of walks left.
use Rattle.augment.specs.Walks.{Known}
use Rattle.shortest.specs.Rows.{bounded_ways}
use Rattle.minimums.specs.BoundedTable.{bounded_in}
use Rattle.augment.proofs.find.Given as goal

abbrev pub invariant-loop : goal.invariant-loop
invariant-loop l =
    Known (bounded_ways (bounded_in l.bounded) l.flow) l.bounded.table.nodes l.bounded.table.sink l.dist l.lowest l.far
