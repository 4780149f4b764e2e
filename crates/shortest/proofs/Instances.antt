-- A table without minimums: the network of its four rows is document 01's, and its rows are not too wide.
use Prim.Native.Nat.{ℕ}
use mathlib.Core.Path.{◌≡◌, ap, fun_ext}
use mathlib.Core.List.{List}
use lib.ListN.{length}
use Rattle.rows.specs.Row.{at_place}
use Rattle.table.specs.Table.{table_of, network_of}
use Rattle.table.specs.Accepted.{ArcRows}
use Rattle.arcs.proofs.Ends.{ends_wide}
use Rattle.shortest.specs.Augment.{bound_network}
use Rattle.shortest.specs.Rows.{WideRows}

-- Minimums that are all 0 give the network of the table.
pub no_minimums : (n s t : ℕ) (tails heads capacities minimums : List ℕ) → ((k : ℕ) → at_place minimums k ≡ 0)
    → bound_network n s t tails heads capacities minimums ≡ network_of (table_of n s t tails heads capacities)
no_minimums n s t tails heads capacities minimums none =
    ap (λ low. record { n = n; m = length capacities; s = s; t = t; tail = at_place tails; head = at_place heads; capacity = at_place capacities; low = low }) (fun_ext none)

-- A table's rows of arcs are not too wide.
pub rows_wide : {n : ℕ} {tails heads capacities : List ℕ} → ArcRows n tails heads capacities → WideRows n tails heads capacities
rows_wide rows =
    record {
      ends = ends_wide rows.ends;
      capacities_long = rows.capacities_long;
    }
