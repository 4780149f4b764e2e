-- `index_arcs` meets its contract: the first arcs before `place` are in their chains.
use mathlib.Core.Path.{◌≡◌}
use lib.ListN.{length}
use Rattle.pairs.specs.Places.{Built}
use Rattle.pairs.proofs.index_arcs.Given as goal

abbrev pub invariant-loop-place : goal.invariant-loop-place
invariant-loop-place l = (length l.first ≡ length l.initial.first) × (length l.next ≡ length l.initial.next) × Built l.n l.place l.tails l.heads l.first l.next
