-- `next_place` meets its contract. The invariant: none of the first p places of the list leads one nearer.
use Prim.Native.Nat.{ℕ, ◌<◌}
use mathlib.Core.Path.{◌≡◌}
use mathlib.Core.Bool.{false}
use Rattle.rows.specs.Row.{at_place}
use Rattle.shortest.specs.Distance.{leads_to}
use Rattle.shortest.specs.Rows.{bounded_ways}
use Rattle.minimums.specs.BoundedTable.{bounded_in}
use Rattle.augment.proofs.next_place.Given as goal

abbrev pub invariant-loop-place : goal.invariant-loop-place
invariant-loop-place l = ((q : ℕ) → q < l.place-index → leads_to (bounded_ways (bounded_in l.bounded) l.flow) l.dist l.d l.i (at_place l.list q) ≡ false)
