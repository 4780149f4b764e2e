-- `tally` meets its contract. The invariant: the flows below k are added up.
use Prim.Native.Nat.{◌-◌, ◌<◌}
use native.Mathlib.Omega.{arith}
use lib.ListN.{length}
use Rattle.rows.specs.Row.{Node, at_place}
use Rattle.sums.proofs.Tallying.{tallied_more}
use Rattle.sums.proofs.tally.Goals as goal

pub loop-k-preserved : goal.loop-k-preserved
loop-k-preserved c =
    let k = c.loop-k.k in
    let node : Node (length c.loop-k.sums) (at_place c.args.ends.now k) = omega (arith, c.requires.by_index k (omega arith), c.loop-k.auto.sums) in
    let small : at_place c.args.flow.now k < 4294967296 = omega (arith, c.type_inv.flow k) in
    tallied_more k c.loop-k.invariant node small c.add_at.ensures
