-- `relabel` meets its contract: the label is what it may rise to.
use mathlib.Core.Path.{refl, sym, subst}
use Rattle.measuring.specs.Visits.{ListOf}
use Rattle.measuring.proofs.Lists.{listed}
use Rattle.shortest.specs.Rows.{bounded_ways}
use Rattle.minimums.specs.BoundedTable.{bounded_in}
use Rattle.table.specs.Table.{table_in}
use Rattle.augment.proofs.relabel.Goals as goal

pub rise_to-label-requires-clause-list_of : goal.rise_to-label-requires-clause-list_of
rise_to-label-requires-clause-list_of c =
    let given = c.args in
    let ends = table_in given.bounded.table in
    let ways = bounded_ways (bounded_in given.bounded) given.flow.now in
    subst (ListOf ways given.i) (sym (c.node_list-list.ensures ends c.requires.in_work refl refl)) (listed c.requires.rows given.i)
