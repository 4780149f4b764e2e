-- `visit` meets its contract. The loop's invariant: what was done so far is `look_to` over the first places of the list, with as many more noted as are fewer unmarked.
use mathlib.Core.Path.{refl}
use native.Mathlib.Omega.{arith}
use Rattle.reach.specs.Visits.{look_to}
use Rattle.reach.proofs.Visiting.{moved_none, look_turn}
use Rattle.reach.proofs.visit.Goals as goal

pub loop-k-init : goal.loop-k-init
unfolding look_to
loop-k-init c = (moved_none, refl)

pub loop-k-preserved : goal.loop-k-preserved
loop-k-preserved c =
    let inv = c.loop-k.invariant in
    let small = c.requires.arc_rows.2 c.loop-k.k-index (omega arith) in
    let args = c.args in
    let table = args.table.now in
    let turn = look_turn c.requires.arc_rows.0 table.nodes table.source table.sink args.flow.now args.i args.list.now c.loop-k.k-index _ _ _ refl small inv.0 inv.1 c.look.ensures in
    (turn.1, turn.0)
