-- `fill_ends` meets its contract. The loop's invariant: the far ends of the lists of nodes 1 to i stand one behind the other, and p is where they end.
use Prim.Native.Nat.{◌-◌}
use mathlib.Core.Path.{◌≡◌}
use Rattle.table.specs.Table.{table_in}
use Rattle.arcs.specs.Residual.{list}
use Rattle.arcs.specs.Sort.{entries_before}
use Rattle.work.specs.Held.{FarTo}
use Rattle.work.proofs.fill_ends.Given as goal

abbrev pub invariant-loop-i : goal.invariant-loop-i
invariant-loop-i l =
    (l.p ≡ entries_before (list (table_in l.table)) l.i) × FarTo (table_in l.table) (l.i - 1) l.ends
