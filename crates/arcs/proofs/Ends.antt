-- A table's ends of arcs are not too wide.
use Prim.Native.Nat.{ℕ}
use mathlib.Core.List.{List}
use native.Mathlib.Omega.{arith}
use Rattle.table.specs.Accepted.{ArcEnds}
use Rattle.arcs.specs.Ends.{WideEnds}

-- What a table's limits say of its arcs' ends is more than the lists ask.
pub ends_wide : {n : ℕ} {tails heads : List ℕ} → ArcEnds n tails heads → WideEnds n tails heads
ends_wide ends =
    record {
      few_nodes = omega (arith, ends.few_nodes);
      few_arcs = omega (arith, ends.few_arcs);
      heads_long = ends.heads_long;
      tail_node = ends.tail_node;
      head_node = ends.head_node;
      no_loop = ends.no_loop;
    }
