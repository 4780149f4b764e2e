-- `first_above` meets its contract: no minimum below the place is above its capacity.
use Prim.Native.Nat.{ℕ, ◌≤◌, ◌<◌}
use Rattle.rows.specs.Row.{at_place}
use Rattle.minimums.proofs.first_above.Given as goal

abbrev pub invariant-loop-place : goal.invariant-loop-place
invariant-loop-place l = (k : ℕ) → k < l.place → at_place l.minimums k ≤ at_place l.capacities k
