-- `list_passing` meets its contract. The loop's invariant: the numbers below k that pass stand in the row, and are counted.
use Prim.Native.Nat.{suc, ◌+◌, ◌<◌}
use mathlib.Core.Path.{◌≡◌, refl, sym, ◌∙◌}
use mathlib.Core.Bool.{true}
use native.Mathlib.Omega.{arith}
use lib.ListN.{length}
use Rattle.listing.proofs.Listing.{passing_few, gathered_none, gathered_room, gathered_yes, gathered_no}
use Rattle.listing.proofs.list_passing.Goals as goal
use Rattle.listing.proofs.list_passing.Goals.{then-passes, else-passes}

pub loop-k-init : goal.loop-k-init
loop-k-init g c = gathered_none g.test c.args.first _ c.requires.1.1.1.1.0

pub bounds-row-count : goal.bounds-row-count
bounds-row-count g c =
    let told = c.requires.1.1.1.0 c.loop-k.k (omega arith) (omega arith) _ c.passes.ensures in
    gathered_room g.test c.loop-k.k c.args.end _ _ _ c.loop-k.invariant (sym told ∙ c.if-passes.true) (omega arith) c.requires.1.1.1.1.1

pub overflow_add-count : goal.overflow_add-count
overflow_add-count g c = omega (arith, c.loop-k.invariant.counted, passing_few g.test c.loop-k.k)

pub loop-k-preserved : goal.loop-k-preserved
loop-k-preserved g c =
    let k = c.loop-k.k in
    let told = c.requires.1.1.1.0 k (omega arith) (omega arith) _ c.passes.ensures in
    let room : c.passes.result ≡ true → c.loop-k.count < length c.loop-k.row = λ kept. gathered_room g.test k c.args.end _ _ _ c.loop-k.invariant (sym told ∙ kept) (omega arith) c.requires.1.1.1.1.1 in
    let on : k + 1 ≡ suc k = omega arith in
    elim c.if-passes.branch [
      | then-passes w ↦ gathered_yes g.test k _ _ _ k _ _ _ on c.loop-k.invariant (sym told ∙ w.if-passes.true) (room w.if-passes.true) refl w.row-is w.count-is
      | else-passes w ↦ gathered_no g.test k _ _ _ _ _ _ on c.loop-k.invariant (sym told ∙ w.if-passes.false) w.row-is w.count-is
    ]
