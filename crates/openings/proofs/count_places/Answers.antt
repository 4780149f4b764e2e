-- `count_places` meets its contract. The loop's invariant: the places below k whose arcs would help are counted.
use Prim.Native.Nat.{suc, ◌+◌}
use mathlib.Core.Path.{◌≡◌, refl}
use native.Mathlib.Omega.{arith}
use lib.ListN.{length}
use Rattle.listing.specs.Passing.{passing}
use Rattle.listing.proofs.Listing.{passing_few}
use Rattle.listing.proofs.Ranking.{count_by}
use Rattle.openings.specs.Helping.{helps_from}
use Rattle.openings.proofs.count_places.Goals as goal

pub loop-k-init : goal.loop-k-init
unfolding passing
loop-k-init c = refl

-- The places up to k whose arcs would help are counted.
counted : (c : goal.After-from-count) → c.loop-k.count + c.from-count.result ≡ length (passing (helps_from c.args.side.now c.args.drains.now c.args.tails.now c.args.heads.now) (suc c.loop-k.k))
counted c =
    count_by (helps_from c.args.side.now c.args.drains.now c.args.tails.now c.args.heads.now) c.loop-k.k c.loop-k.count _ _ c.both_mark.ensures c.loop-k.invariant c.from-count.ensures

pub overflow_add-count : goal.overflow_add-count
overflow_add-count c =
    omega (arith, c.requires.0.few_arcs, counted c, passing_few (helps_from c.args.side.now c.args.drains.now c.args.tails.now c.args.heads.now) (suc c.loop-k.k))

pub loop-k-preserved : goal.loop-k-preserved
loop-k-preserved c = let on : c.loop-k.k + 1 ≡ suc c.loop-k.k = omega arith in rw on (counted c)
