-- Document 01, "The run": the start.
use Rattle.std.specs.Prelude.{ℕ, ◌-◌, cond, List, eqb}
use Rattle.rows.specs.Row.{at_place, by_place, by_node}
use Rattle.rows.specs.Sum.{only}
use Rattle.network.specs.Network.{is_inner, inflow, outflow}
use Rattle.table.specs.Table.{Table, arcs, tail, capacity, network_of}

-- What changes while the run goes on: flow by place, excess and label by node.
pub record State : Type 0 where
  pub flow : List ℕ
  pub excess : List ℕ
  pub label : List ℕ

-- Every arc leaving the source is filled, all others are 0.
abbrev pub start_flow_at : Table → ℕ → ℕ
start_flow_at t k = only (eqb (tail t k) t.source) (capacity t k)

-- The flow row at the start.
unfoldable pub start_flow : Table → List ℕ
unfolding by_place
start_flow t = by_place (start_flow_at t) (arcs t)

-- The excess of a node other than source and sink is inflow less outflow; source and sink count as 0.
unfoldable pub excess_at : Table → List ℕ → ℕ → ℕ
unfolding inflow outflow
excess_at t flow i =
    only (is_inner (network_of t) i) (inflow (network_of t) (at_place flow) i - outflow (network_of t) (at_place flow) i)

-- Labels at the start: the source has n, the sink 0, others 1.
abbrev pub start_label_at : Table → ℕ → ℕ
start_label_at t i = cond (eqb i t.source) t.nodes (cond (eqb i t.sink) 0 1)

-- The state at the start.
unfoldable pub start : Table → State
unfolding start_flow excess_at by_place
start t =
    record {
      flow = start_flow t;
      excess = by_node (excess_at t (start_flow t)) t.nodes;
      label = by_node (start_label_at t) t.nodes;
    }
