-- `search` meets its contract. The loop's invariant: nothing before j is eligible.
use Rattle.looking.specs.Looked.{NoneBefore}
use Rattle.steps.specs.Rows.{FarEnds}
use Rattle.run.specs.Rows.{state_of}
use Rattle.table.specs.Table.{table_of}
use mathlib.Core.List.{List}
use Prim.Native.Nat.{ℕ}
use Rattle.steps.proofs.search.Given as goal

abbrev pub invariant-loop-j : goal.invariant-loop-j
invariant-loop-j l =
    (n s t : ℕ) (heads excess : List ℕ)
    → FarEnds (table_of n s t l.table.tails.now heads l.table.capacities.now) l.i l.list l.ends
    → NoneBefore (table_of n s t l.table.tails.now heads l.table.capacities.now) (state_of l.flow excess l.labels) l.i l.list l.from
    → NoneBefore (table_of n s t l.table.tails.now heads l.table.capacities.now) (state_of l.flow excess l.labels) l.i l.list l.j
