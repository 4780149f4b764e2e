-- `leave_by` meets its contract: the place that is noted, or the list's, which is noted then.
use mathlib.Core.Path.{refl, sym, subst, ◌∙◌}
use native.Mathlib.Omega.{arith}
use Rattle.shortest.specs.Ways.{Ways}
use Rattle.measuring.specs.Visits.{ListOf}
use Rattle.measuring.proofs.Lists.{listed}
use Rattle.augment.proofs.Walking.{next_most, noted_lowest, lowest_noted}
use Rattle.shortest.specs.Rows.{bounded_ways}
use Rattle.minimums.specs.BoundedTable.{bounded_in}
use Rattle.table.specs.Table.{table_in}
use Rattle.augment.proofs.leave_by.Goals as goal

pub returns-then-leads_at-clause-place : goal.returns-then-leads_at-clause-place
returns-then-leads_at-clause-place c =
    noted_lowest c.requires.noted_2 c.args.d c.args.i _ c.requires.dist_len.3 c.requires.dist_len.4 refl c.if-noted-bounded.true (sym c.leads_at.ensures ∙ c.if-leads_at.true)

pub next_place-k-requires-clause-list_of : goal.next_place-k-requires-clause-list_of
next_place-k-requires-clause-list_of c =
    let given = c.args in
    let ways : Ways = bounded_ways (bounded_in given.bounded) given.flow.now in
    subst (ListOf ways given.i) (sym (c.node_list-list.ensures (table_in given.bounded.table) c.requires.in_work refl refl)) (listed c.requires.rows given.i)

pub overflow_cast-lowest : goal.overflow_cast-lowest
overflow_cast-lowest c =
    let given = c.args in
    let ways : Ways = bounded_ways (bounded_in given.bounded) given.flow.now in
    omega (arith, c.next_place-k.ensures, next_most ways given.dist.now given.d given.i, c.requires.rows.arcs.capacities_long, c.requires.rows.arcs.ends.few_arcs)

pub returns-then-k-bounded-clause-noted : goal.returns-then-k-bounded-clause-noted
returns-then-k-bounded-clause-noted c =
    let given = c.args in
    lowest_noted c.requires.noted_2 given.d given.i _ c.requires.dist_len.3 c.requires.dist_len.4 c.requires.dist_len.1 c.requires.dist_len.2 c.next_place-k.ensures c.far_at.ensures
