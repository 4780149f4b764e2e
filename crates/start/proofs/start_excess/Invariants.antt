-- `start_excess` meets its contract. The invariant: the row holds what the filled arcs below k brought to each node.
use Rattle.start.proofs.Starting.{held}
use Rattle.rows.specs.Sum.{total}
use Rattle.table.specs.Table.{table_in}
use Rattle.rows.specs.Row.{by_node}
use lib.ListN.{length}
use mathlib.Core.Path.{◌≡◌}
use Prim.Native.Nat.{◌≤◌, ◌*◌}
use Rattle.start.proofs.start_excess.Given as goal

abbrev pub invariant-loop-k : goal.invariant-loop-k
invariant-loop-k l =
    (l.excess ≡ by_node (held (table_in l.table) l.k) (length l.initial.excess))
    × (total l.excess ≤ 1000000 * l.k)
