-- `visit` meets its contract. The loop's invariant: what was done so far is `look_to` over the first places of the list, and there is room for more.
use native.Mathlib.Omega.{arith}
use Rattle.shortest.proofs.Ends.{rows_ends}
use Rattle.measuring.proofs.Visiting.{moved_none, look_none, look_turn}
use Rattle.measuring.proofs.visit.Goals as goal

pub loop-k-init : goal.loop-k-init
loop-k-init c = (moved_none c.requires.places.1, look_none _ _ _ _ _ _)

pub loop-k-preserved : goal.loop-k-preserved
loop-k-preserved c =
    let turn =
    look_turn _ _ c.args.d c.args.j (rows_ends c.requires.rows.0) c.args.list.now c.loop-k.k-index c.requires.rows.1
    (c.requires.places.0 c.loop-k.k-index (omega arith)) c.loop-k.invariant.0 c.loop-k.invariant.1 c.look.ensures in
    (turn.1, turn.0)
