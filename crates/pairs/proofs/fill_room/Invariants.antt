-- `fill_room` meets its contract: each place holds the capacities of the arcs so far whose pair has it.
use Prim.Native.Nat.{ℕ, suc}
use mathlib.Core.Path.{◌≡◌}
use lib.Dec.{eqb}
use lib.ListN.{length}
use Rattle.rows.specs.Row.{at_place}
use Rattle.rows.specs.Sum.{sum, only}
use Rattle.pairs.specs.Places.{first_to}
use Rattle.pairs.proofs.fill_room.Given as goal

abbrev pub invariant-loop-place : goal.invariant-loop-place
invariant-loop-place l =
    (length l.room ≡ length l.initial.room)
    × ((p : ℕ) → at_place l.room p ≡ sum l.place (λ j. only (eqb (first_to (at_place l.tails) (at_place l.heads) (length l.tails) (at_place l.tails j) (at_place l.heads j)) (suc p)) (at_place l.capacities j)))
