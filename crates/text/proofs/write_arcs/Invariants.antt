-- `write_arcs` meets its contract: the arc rows' first places are written, and the arcs that are left are still to be.
use lib.ListN.{length}
use Rattle.text.specs.Arcs.{arcs_left}
use Rattle.text.proofs.Filling.{Writing}
use Rattle.text.proofs.write_arcs.Given as goal

abbrev pub invariant-loop-place : goal.invariant-loop-place
invariant-loop-place l =
    Writing l.text l.initial.tails l.initial.heads l.initial.capacities l.initial.minimums l.tails l.heads l.capacities l.minimums (length l.yielded) (arcs_left l.place-iterator.iter)
