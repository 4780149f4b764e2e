-- `least_far` meets its contract. The loop's invariant: the least label of the whole list from `best` is that of the rest from `least`;
-- no residual arc before j leads below `least`, and none before `at` so low.
use Rattle.looking.specs.Looked.{HighBefore}
use Rattle.steps.specs.Rows.{FarEnds}
use Rattle.run.specs.Rows.{state_of}
use Rattle.table.specs.Table.{table_of}
use Rattle.run.specs.Relabel.{least_far}
use lib.ListN.{drop}
use mathlib.Core.List.{List}
use mathlib.Core.Path.{◌≡◌}
use Prim.Native.Nat.{ℕ, ◌+◌, ◌≤◌}
use Rattle.steps.proofs.least_far.Given as goal

abbrev pub invariant-loop-j : goal.invariant-loop-j
invariant-loop-j l =
    (l.at ≤ l.j)
    × (l.least ≤ l.best)
    × ((n s t : ℕ) (heads excess : List ℕ)
    → FarEnds (table_of n s t l.table.tails.now heads l.table.capacities.now) l.i l.list l.ends
    → (least_far (table_of n s t l.table.tails.now heads l.table.capacities.now) (state_of l.flow excess l.labels) l.i l.list l.best
    ≡ least_far (table_of n s t l.table.tails.now heads l.table.capacities.now) (state_of l.flow excess l.labels) l.i (drop l.j l.list) l.least)
    × HighBefore (table_of n s t l.table.tails.now heads l.table.capacities.now) (state_of l.flow excess l.labels) l.i l.list l.j l.least
    × HighBefore (table_of n s t l.table.tails.now heads l.table.capacities.now) (state_of l.flow excess l.labels) l.i l.list l.at (l.least + 1))
