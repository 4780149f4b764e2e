-- `go_on_with` meets its contract. The invariant: the rows stay ready, lead to the same end, and what is known of the labels holds. The measure is what the capacities out of the source still allow.
use mathlib.Core.Path.{refl, ◌∙◌}
use Rattle.shortest.proofs.Ends.{rows_ends}
use Rattle.augment.proofs.Walking.{measured_known}
use Rattle.augment.proofs.Extending.{go_on_stops, go_on_same, go_on_ready, go_on_less}
use Rattle.augment.proofs.go_on_with.Goals as goal

pub loop-init : goal.loop-init
loop-init c =
    ((c.requires.ready, refl), measured_known (rows_ends c.requires.ready.rows) c.requires.ready.sink c.measure_anew.ensures.labels c.measure_anew.ensures.none c.requires.dist_len.1)

pub loop-smaller : goal.loop-smaller
loop-smaller c = go_on_less c.loop.invariant.0.0 c.extend.ensures.row c.loop-test.true

pub loop-preserved : goal.loop-preserved
loop-preserved c =
    let inv = c.loop.invariant in (
      (go_on_ready inv.0.0 c.extend.ensures.row c.loop-test.true, go_on_same inv.0.0 c.extend.ensures.row c.loop-test.true ∙ inv.0.1),
      c.extend.ensures.known,
    )

pub returns : goal.returns
returns c = let inv = c.loop.invariant in go_on_stops inv.0.0 c.extend.ensures.row c.loop-test.false ∙ inv.0.1
