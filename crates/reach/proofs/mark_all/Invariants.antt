-- `mark_all` meets its contract. The loop's invariant: each marked node is noted or done with. The measure: unmarked nodes twice, and the nodes noted.
use Prim.Native.Nat.{◌+◌}
use Rattle.table.specs.Table.{table_in}
use Rattle.reach.specs.Noted.{front_of}
use Rattle.reach.specs.Visits.{unmarked}
use Rattle.reach.proofs.Visiting.{Visiting}
use Rattle.reach.proofs.mark_all.Given as goal

abbrev pub invariant-loop-i : goal.invariant-loop-i
invariant-loop-i l =
    Visiting (table_in l.table) l.flow 0 (front_of l.side l.noted)

abbrev pub decreases-loop-i : goal.decreases-loop-i
decreases-loop-i l = unmarked l.side + unmarked l.side + l.noted.count
