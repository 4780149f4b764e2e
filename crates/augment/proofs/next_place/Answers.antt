-- `next_place` meets its contract. The invariant: none of the places passed leads one nearer.
use mathlib.Core.Path.{sym, ◌∙◌}
use native.Mathlib.Omega.{arith}
use Rattle.shortest.specs.Ways.{Ways}
use Rattle.augment.proofs.Places.{next_in_list, next_nowhere}
use Rattle.shortest.specs.Rows.{bounded_ways}
use Rattle.minimums.specs.BoundedTable.{bounded_in}
use Rattle.augment.proofs.next_place.Goals as goal

pub returns-then-leads_past : goal.returns-then-leads_past
returns-then-leads_past c =
    let given = c.args in
    let ways : Ways = bounded_ways (bounded_in given.bounded) given.flow.now in
    next_in_list ways given.dist.now given.d given.i given.list.now c.requires.list_of c.loop-place.place-index c.loop-place-test.true c.loop-place.invariant
    (sym c.leads_past.ensures ∙ c.if-leads_past.true)

pub returns : goal.returns
returns c =
    let given = c.args in
    let ways : Ways = bounded_ways (bounded_in given.bounded) given.flow.now in
    next_nowhere ways given.dist.now given.d given.i given.list.now c.requires.list_of (λ q l. c.loop-place.invariant q (omega (arith, c.loop-place-test.false)))
