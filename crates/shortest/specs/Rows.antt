-- What the code asks of the table and the flow row that it is lent: for the contracts of the functions that fill chains.
use Rattle.std.specs.Prelude.{ℕ, ◌≤◌, ◌≡◌, Bool, cond, List, length}
use Rattle.rows.specs.Row.{Node, at_place}
use Rattle.network.specs.Network.{Network, Flow}
use Rattle.minimums.specs.BoundedTable.{BoundedTable}
use Rattle.arcs.specs.Ends.{WideEnds}
use Rattle.shortest.specs.Ways.{Ways}
use Rattle.shortest.specs.Augment.{bound_network, ways_in, reaches, augmented}

-- The residual arcs of five rows: tails, heads, capacities, minimums and flows.
abbrev pub row_ways : (tails heads capacities minimums flow : List ℕ) → Ways
row_ways tails heads capacities minimums flow = ways_in (bound_network 0 0 0 tails heads capacities minimums) flow

-- The same of a bounded table with a flow row.
abbrev pub bounded_ways : BoundedTable → (flow : List ℕ) → Ways
bounded_ways b flow = row_ways b.table.tails b.table.heads b.table.capacities b.minimums flow

-- The bounded table as a network. The residual from head to tail is flow less minimum.
abbrev pub bounded_network : BoundedTable → Network
bounded_network b =
    bound_network b.table.nodes b.table.source b.table.sink b.table.tails b.table.heads b.table.capacities b.minimums

-- Three rows of arcs: their ends, which lists can be made of, and a capacity for each.
pub record WideRows (n : ℕ) (tails heads capacities : List ℕ) : Type 0 where
  pub ends : WideEnds n tails heads
  pub capacities_long : length capacities ≡ length tails

-- The rows fit together: arcs among n nodes, with a minimum and a flow for each.
pub record Rows (b : BoundedTable) (flow : List ℕ) : Type 0 where
  pub arcs : WideRows b.table.nodes b.table.tails b.table.heads b.table.capacities
  pub minimums_long : length b.minimums ≡ length b.table.capacities
  pub flow_long : length b.table.capacities ≤ length flow

-- What going on from a flow asks: rows that fit together, source and sink two of the nodes, and a flow in the rows.
pub record Ready (b : BoundedTable) (flow : List ℕ) : Type 0 where
  pub rows : Rows b flow
  pub source : Node b.table.nodes b.table.source
  pub sink : Node b.table.nodes b.table.sink
  pub apart : b.table.source ≡ b.table.sink → ⊥
  pub valid : Flow (bounded_network b) (at_place flow)

-- One chain filled, or none: whether there was one, and the flow row after.
pub record Extended (N : Network) (before after : List ℕ) (more : Bool) : Type 0 where
  pub told : more ≡ reaches N before
  pub row : after ≡ cond (reaches N before) (augmented N before) before
