-- Document 02, CR 13: the places whose opening would help, the source side and the nodes that reach the sink, each as a list, rising.
use Rattle.std.specs.Prelude.{ℕ, suc, ◌<◌, ◌≡◌, Bool, false, cond, ◌&&◌, List, length}
use Rattle.rows.specs.Row.{at_place}
use Rattle.table.specs.Table.{Table, arcs, network_of}
use Rattle.reach.specs.Side.{marked, side_of, sink_side_of}
use Rattle.run.specs.Phase.{run}
use Rattle.listing.specs.Passing.{passing}
use Rattle.raising.specs.Raising.{Rises, RisesBy}

-- The marked nodes, rising. The number 0 is no node's, and has no mark.
abbrev pub nodes_in : (marks : List ℕ) → List ℕ
nodes_in marks = passing (marked marks) (suc (length marks))

-- Whether the arc at place k would help: its tail is on the source side, and its head among the nodes that reach the sink.
abbrev pub helps_from : (side sinks tails heads : List ℕ) → (k : ℕ) → Bool
helps_from side sinks tails heads k = marked side (at_place tails k) && marked sinks (at_place heads k)

-- The places whose arcs would help, rising.
abbrev pub places_in : (side sinks tails heads : List ℕ) → List ℕ
places_in side sinks tails heads = passing (helps_from side sinks tails heads) (length tails)

-- The flow of the solved table.
abbrev pub flow_of : Table → List ℕ
flow_of t = (run t).state.flow

-- Its source side, as a list of nodes.
abbrev pub source_nodes : Table → List ℕ
source_nodes t = nodes_in (side_of t (flow_of t))

-- The nodes that reach the sink over residual arcs.
abbrev pub sink_nodes : Table → List ℕ
sink_nodes t = nodes_in (sink_side_of t (flow_of t))

-- Whether raising the arc at place k by one unit would raise the value.
abbrev pub helps : Table → (k : ℕ) → Bool
helps t k = helps_from (side_of t (flow_of t)) (sink_side_of t (flow_of t)) t.tails t.heads k

-- The places where it would.
abbrev pub helping_places : Table → List ℕ
helping_places t = places_in (side_of t (flow_of t)) (sink_side_of t (flow_of t)) t.tails t.heads

-- What document 02 asks to be proved of a table: raising one arc by one unit raises the value by one exactly where it helps; elsewhere the value does
-- not move, however much the arc is raised.
pub record HelpsExactly (t : Table) : Type 0 where
  pub one : (k : ℕ) → k < arcs t → RisesBy (network_of t) (at_place (flow_of t)) k (cond (helps t k) 1 0)
  pub never : (k : ℕ) → k < arcs t → helps t k ≡ false → (units : ℕ) → Rises (network_of t) (at_place (flow_of t)) k units 0
