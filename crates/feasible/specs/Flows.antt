-- Document 02, CR 11: tables whose arcs have a least flow as networks, and their flows.
use Rattle.std.specs.Prelude.{ℕ}
use Rattle.network.specs.Network.{Network, Flow}
use Rattle.minimums.specs.BoundedTable.{BoundedTable}
pub use Rattle.shortest.specs.Rows.{bounded_network}

-- A flow that keeps every arc between its two numbers; what enters a node other than source and sink leaves it.
abbrev pub BoundedFlow : BoundedTable → (ℕ → ℕ) → Type 0
BoundedFlow b flow = Flow (bounded_network b) flow

-- No flow keeps all arcs between their numbers.
abbrev pub NoFlow : BoundedTable → Type 0
NoFlow b = (flow : ℕ → ℕ) → BoundedFlow b flow → ⊥
