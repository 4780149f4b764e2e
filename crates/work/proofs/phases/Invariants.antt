-- `phases` meets its contract. The loop's invariant: the run stands after as many phases as were counted, or has reached q; the lists are as they were, and how far they were looked through is right.
use Prim.Native.Nat.{◌<◌}
use Rattle.table.specs.Table.{table_in}
use Rattle.run.specs.Phase.{delta_after, after}
use Rattle.looking.specs.Looked.{Looked}
use Rattle.arcs.specs.Work.{looked_part, SameLists}
use Rattle.work.specs.Held.{state_in, run_in, Underway}
use mathlib.Core.Path.{◌≡◌}
use Rattle.work.proofs.phases.Given as goal

abbrev pub invariant-loop : goal.invariant-loop
invariant-loop l =
    (l.delta ≡ delta_after (table_in l.table) l.counter)
    × Underway (table_in l.table) l.q (run_in l.table.nodes l.flow l.work l.tally.counts) l.tally.sink
    × (l.tally.sink < l.q → run_in l.table.nodes l.flow l.work l.tally.counts ≡ after (table_in l.table) l.counter)
    × SameLists l.table.nodes l.initial.work l.work
    × Looked (table_in l.table) (state_in l.table.nodes l.flow l.work) (looked_part l.table.nodes l.work)
