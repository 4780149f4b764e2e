-- `cut_capacity` meets its contract: the total is that of the arcs so far.
use Prim.Native.Nat.{◌*◌, ◌≤◌}
use mathlib.Core.Path.{◌≡◌}
use mathlib.Core.Bool.{not, ◌&&◌}
use Rattle.rows.specs.Row.{at_place}
use Rattle.rows.specs.Sum.{sum, only}
use Rattle.reach.specs.Side.{marked}
use Rattle.plan.proofs.cut_capacity.Given as goal

abbrev pub invariant-loop-place : goal.invariant-loop-place
invariant-loop-place l =
    (l.total ≤ l.place * 1000000)
    × (l.total ≡ sum l.place (λ k. only (marked l.side (at_place l.table.tails.now k) && not (marked l.side (at_place l.table.heads.now k))) (at_place l.table.capacities.now k)))
