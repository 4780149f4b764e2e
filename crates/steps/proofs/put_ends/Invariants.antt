-- `put_ends` meets its contract. The loop's invariant: the far ends of the places before j stand from p on, and what stood before p stands there still.
use Rattle.rows.specs.Row.{at_place}
use Rattle.arcs.specs.Residual.{far}
use Rattle.table.specs.Table.{table_of}
use mathlib.Core.List.{List}
use mathlib.Core.Path.{◌≡◌}
use Prim.Native.Nat.{ℕ, ◌+◌, ◌<◌}
use Rattle.steps.proofs.put_ends.Given as goal

abbrev pub invariant-loop-j : goal.invariant-loop-j
invariant-loop-j l =
    ((q : ℕ) → q < l.p → at_place l.ends q ≡ at_place l.initial.ends q)
    × ((n s t : ℕ) (capacities : List ℕ) (q : ℕ) → q < l.j → at_place l.ends (l.p + q) ≡ far (table_of n s t l.table.tails.now l.table.heads.now capacities) l.i (at_place l.list q))
