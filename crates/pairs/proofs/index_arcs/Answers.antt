-- `index_arcs` meets its contract: the first arcs before `place` are in their chains.
use mathlib.Core.Path.{refl}
use native.Mathlib.Omega.{arith}
use Rattle.pairs.proofs.Chains.{built_none}
use Rattle.pairs.proofs.index_arcs.Goals as goal

pub loop-place-init : goal.loop-place-init
loop-place-init c =
    let a = c.args in
    (refl, refl, built_none a.n a.tails.now a.heads.now a.first.now a.next.now c.requires.arc_ends.1 (omega (arith, c.requires.arc_ends.2, c.requires.arc_ends.0.heads_long)) c.requires.zeros.0 c.requires.zeros.1)
