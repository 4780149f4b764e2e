-- `phase` meets its contract. The loop's invariant: the phase stands at a moment (`Going`), the lists are as they were, how far they were looked
-- through is right, the next choice is made, and the tournament is that of the other nodes' keys.
use Rattle.table.specs.Table.{table_in}
use Rattle.arcs.specs.Work.{looked_part, SameLists}
use Rattle.work.specs.Held.{state_in, run_in, Ready}
use Rattle.work.proofs.Phasing.{left}
use Rattle.work.proofs.Going.{Going}
use Rattle.work.proofs.phase.Given as goal

abbrev pub invariant-loop-taken : goal.invariant-loop-taken
invariant-loop-taken l =
    Going (table_in l.table) l.q l.delta (run_in l.table.nodes l.initial.flow l.initial.work l.initial.taken.counts) (run_in l.table.nodes l.flow l.work l.taken.counts) l.taken.sink
    × SameLists l.table.nodes l.initial.work l.work
    × Ready (table_in l.table) l.delta (state_in l.table.nodes l.flow l.work) (looked_part l.table.nodes l.work) l.tree l.next

abbrev pub decreases-loop-taken : goal.decreases-loop-taken
decreases-loop-taken l =
    left (table_in l.table) (run_in l.table.nodes l.initial.flow l.initial.work l.initial.taken.counts) (run_in l.table.nodes l.flow l.work l.taken.counts)
