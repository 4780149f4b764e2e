-- `count_nodes` meets its contract. The loop's invariant: the marked nodes up to the next are counted.
use Prim.Native.Nat.{suc, ◌+◌}
use mathlib.Core.Path.{◌≡◌, refl}
use native.Mathlib.Omega.{arith}
use lib.ListN.{length}
use Rattle.reach.specs.Side.{marked}
use Rattle.listing.specs.Passing.{passing}
use Rattle.listing.proofs.Listing.{passing_fewer}
use Rattle.listing.proofs.Ranking.{count_by}
use Rattle.openings.proofs.count_nodes.Goals as goal

pub loop-mark-init : goal.loop-mark-init
unfolding passing
loop-mark-init c = refl

-- The marked nodes up to the one after the next are counted.
counted : (c : goal.After-from-count) → c.loop-mark.count + c.from-count.result ≡ length (passing (marked c.args.marks.now) (suc (suc c.loop-mark.mark-index)))
counted c = count_by (marked c.args.marks.now) (suc c.loop-mark.mark-index) c.loop-mark.count _ _ refl c.loop-mark.invariant c.from-count.ensures

pub overflow_add-count : goal.overflow_add-count
overflow_add-count c = omega (arith, c.requires, counted c, passing_fewer (marked c.args.marks.now) refl (suc c.loop-mark.mark-index))

pub loop-mark-preserved : goal.loop-mark-preserved
loop-mark-preserved c =
    let on : c.loop-mark.mark-index + 1 ≡ suc c.loop-mark.mark-index = omega arith in rw on (counted c)

pub returns : goal.returns
returns c =
    let all : c.loop-mark.mark-index ≡ length c.args.marks.now = omega arith in
    rw (← all) c.loop-mark.invariant
