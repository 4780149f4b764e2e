-- `plant` meets its contract: the invariant: the leaves below j are right.
use Rattle.tournament.specs.Tournament.{key, leaf_of}
use lib.ListN.{length}
use Rattle.rows.specs.Row.{at_place}
use mathlib.Core.Path.{◌≡◌}
use Prim.Native.Nat.{ℕ, ◌<◌, ◌+◌}
use Rattle.tournament.proofs.plant.Given as goal

abbrev pub invariant-loop-j : goal.invariant-loop-j
invariant-loop-j l = (i : ℕ) → i < l.j → at_place l.tree (512 + i) ≡ leaf_of (length l.labels) (key l.delta l.excess l.labels) i
