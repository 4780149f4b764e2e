-- `cut_capacity` meets its contract: the total is that of the arcs so far.
use Prim.Native.Nat.{ℕ}
use mathlib.Core.Path.{◌≡◌, refl, ap, ◌∙◌}
use mathlib.Core.Bool.{not, ◌&&◌}
use lib.ListN.{length}
use native.Mathlib.Omega.{arith}
use native.Mathlib.Numerals.{add-one}
use Rattle.rows.specs.Row.{at_place}
use Rattle.rows.specs.Sum.{sum, only}
use Rattle.rows.proofs.Sums.{only_le}
use Rattle.network.specs.Network.{leaving}
use Rattle.reach.specs.Side.{marked}
use Rattle.plan.proofs.cut_capacity.Goals as goal

pub loop-place-init : goal.loop-place-init
unfolding sum
loop-place-init c = (omega arith, refl)

pub loop-place-preserved : goal.loop-place-preserved
unfolding sum
loop-place-preserved c =
    let a = c.args in (
      omega (arith, c.crossing-total.ensures, only_le (marked a.side.now (at_place a.table.now.tails.now c.loop-place.place) && not (marked a.side.now (at_place a.table.now.heads.now c.loop-place.place))) (at_place a.table.now.capacities.now c.loop-place.place), c.requires.0.small c.loop-place.place c.loop-place-test.true),
      rw add-one (omega (arith, c.loop-place.invariant.1, c.crossing-total.ensures)),
    )

pub returns : goal.returns
unfolding leaving
returns c =
    let a = c.args in
    let all : c.loop-place.place ≡ length a.table.now.capacities.now = omega arith in
    c.loop-place.invariant.1 ∙ ap (λ (k : ℕ). sum k (λ j. only (marked a.side.now (at_place a.table.now.tails.now j) && not (marked a.side.now (at_place a.table.now.heads.now j))) (at_place a.table.now.capacities.now j))) all
