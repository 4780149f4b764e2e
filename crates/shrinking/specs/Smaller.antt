-- Document 02, CR 14: the smaller table, without the arcs and nodes that can't matter, and its flow put back.
use Rattle.std.specs.Prelude.{ℕ, suc, ◌<◌, ◌≡◌, Bool, cond, ◌&&◌, ◌||◌, List, map, eqb, ltb, length}
use Rattle.rows.specs.Row.{at_place, at_node, by_place}
use Rattle.table.specs.Table.{Table, table_of, arcs, tail, head, capacity, network_of}
use Rattle.reach.specs.Side.{marked, side_from, side_of, turned}
use Rattle.run.specs.Phase.{run}
use Rattle.listing.specs.Passing.{passing}

-- The nodes that the source reaches over arcs of capacity above 0: those are the residual arcs where nothing flows.
abbrev pub from_source : Table → List ℕ
from_source t = side_from (network_of t) (λ k. 0)

-- The nodes that reach the sink over such arcs.
abbrev pub to_sink : Table → List ℕ
to_sink t = side_from (network_of (turned t)) (λ k. 0)

-- Both rows of marks have node i.
abbrev pub both_mark : (ahead behind : List ℕ) → (i : ℕ) → Bool
both_mark ahead behind i = marked ahead i && marked behind i

-- A node is live if over arcs of capacity above 0 the source reaches it and it reaches the sink.
abbrev pub live : Table → (i : ℕ) → Bool
live t i = both_mark (from_source t) (to_sink t) i

-- A way from i to j over arcs of capacity above 0.
pub data Leads (t : Table) : (i j : ℕ) → Type 0 where
  here : {i : ℕ} → Leads t i i
  over : (k : ℕ) {j : ℕ} → k < arcs t → 0 < capacity t k → Leads t (head t k) j → Leads t (tail t k) j

-- In those words a node is live (proved: live_leads, leads_live).
pub record Live (t : Table) (i : ℕ) : Type 0 where
  pub from_source : Leads t t.source i
  pub to_sink : Leads t i t.sink

-- A node is kept by two rows of marks: it has both, or is source or sink.
abbrev pub node_by : (ahead behind : List ℕ) → (s t : ℕ) → (i : ℕ) → Bool
node_by ahead behind s t i = both_mark ahead behind i || (eqb i s || eqb i t)

-- An arc is kept by them: it has capacity above 0, and both ends have both marks.
abbrev pub arc_by : (ahead behind tails heads capacities : List ℕ) → (k : ℕ) → Bool
arc_by ahead behind tails heads capacities k =
    ltb 0 (at_place capacities k) && (both_mark ahead behind (at_place tails k) && both_mark ahead behind (at_place heads k))

-- The nodes that are kept: the live ones, and always source and sink.
abbrev pub keeps_node : Table → (i : ℕ) → Bool
keeps_node t i = node_by (from_source t) (to_sink t) t.source t.sink i

-- The arcs that are kept: those of capacity above 0 with both ends live.
abbrev pub keeps_arc : Table → (k : ℕ) → Bool
keeps_arc t k = arc_by (from_source t) (to_sink t) t.tails t.heads t.capacities k

-- Where each node of the smaller table came from: the kept ones, rising.
abbrev pub node_origins : Table → List ℕ
node_origins t = passing (keeps_node t) (suc t.nodes)

-- Where each of its arcs came from.
abbrev pub arc_origins : Table → List ℕ
arc_origins t = passing (keeps_arc t) (arcs t)

-- How many numbers up to i pass a test.
abbrev pub up_to : (ℕ → Bool) → (i : ℕ) → ℕ
up_to test i = length (passing test (suc i))

-- A node's number in the smaller table: how many kept ones there are up to it.
abbrev pub number_in : Table → (i : ℕ) → ℕ
number_in t i = up_to (keeps_node t) i

-- The smaller table, in the old order.
abbrev pub smaller : Table → Table
smaller t =
    table_of (length (node_origins t)) (number_in t t.source) (number_in t t.sink)
    (map (λ k. number_in t (tail t k)) (arc_origins t)) (map (λ k. number_in t (head t k)) (arc_origins t)) (map (λ k. capacity t k) (arc_origins t))

-- By these rows of a smaller table and its origins, its arc q is an old one, renumbered: where it came from stands at q of `arcs_from`, and its ends
-- are numbers of nodes of which `nodes_from` has the old arc's ends.
pub record OldArc (t : Table) (nodes_from arcs_from tails heads capacities : List ℕ) (q : ℕ) : Type 0 where
  pub below : at_place arcs_from q < arcs t
  pub tail_is : at_node nodes_from (at_place tails q) ≡ tail t (at_place arcs_from q)
  pub head_is : at_node nodes_from (at_place heads q) ≡ head t (at_place arcs_from q)
  pub capacity_is : at_place capacities q ≡ capacity t (at_place arcs_from q)

-- At place k what a row holds at its rank among those that pass, and 0 where k does not pass.
abbrev pub back_by : (ℕ → Bool) → (flow : List ℕ) → (k : ℕ) → ℕ
back_by test flow k = cond (test k) (at_place flow (length (passing test k))) 0

-- A flow of the smaller table put back at place k: 0 where the arc is not kept.
abbrev pub back_at : Table → (flow : List ℕ) → (k : ℕ) → ℕ
back_at t flow k = back_by (keeps_arc t) flow k

-- It put back at every place.
abbrev pub put_back : Table → (flow : List ℕ) → List ℕ
put_back t flow = by_place (back_at t flow) (arcs t)

-- The flow of the smaller table's run, put back,
abbrev pub back_flow : Table → List ℕ
back_flow t = put_back t (run (smaller t)).state.flow

-- and the side that it has in the old table, marked afresh.
abbrev pub back_side : Table → List ℕ
back_side t = side_of t (back_flow t)
