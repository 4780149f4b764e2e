-- `write_list` meets its contract. The invariant: what was counted and stored so far, and the searches begin where nothing before has flow left.
use Prim.Native.Nat.{◌≤◌}
use mathlib.Core.Path.{◌≡◌}
use lib.ListN.{length}
use Rattle.pieces.specs.Chains.{has_left, list_of}
use Rattle.walks.proofs.Listing.{Counting}
use Rattle.walks.specs.Rows.{NoneBefore, Ready}
use Rattle.walks.proofs.write_list.Given as goal

abbrev pub invariant-loop-done : goal.invariant-loop-done
invariant-loop-done l =
    (length l.walked ≡ length l.initial.walked) × Ready l.nodes l.tails l.heads l.left l.first × ((l.lowest ≤ length l.tails) × NoneBefore (has_left l.left) l.lowest)
    × Counting l.nodes l.source l.sink l.tails l.heads (list_of l.nodes l.source l.sink l.tails l.heads l.initial.left) l.initial.list l.list l.left l.done l.at
