-- Document 02, CR 14, the call: what it answers, and what the lent rows hold afterwards.
use Rattle.std.specs.Prelude.{ℕ, suc, ◌<◌, ◌≤◌, Bool, ◌&&◌, List, ◌++◌, length, take, drop, nat_le, Ok, Err}
use Rattle.rows.specs.Row.{cleared}
use Rattle.table.specs.Table.{Table, arcs}
use Rattle.minimums.specs.BoundedTable.{BoundedTable}
use Rattle.minimums.specs.Checks.{plain_check}
use Rattle.stamps.specs.Stamp.{raised}
use Rattle.arcs.specs.Work.{work_need}
use Rattle.run.specs.Demands.{Best, Bounded}
use Rattle.solver.specs.declared.Answer.{Answer}
use Rattle.solver.specs.Solving.{has_room, refusal, solution, counts_of}
use Rattle.listing.specs.Passing.{filled_with, Lists}
use Rattle.shrinking.specs.Smaller.{OldArc, keeps_node, keeps_arc, node_origins, arc_origins, smaller, back_flow, back_side}
use Rattle.smaller.specs.declared.Reduced.{Reduced}
use Rattle.keeping.specs.SmallRows.{SmallRows, small_rows}
use Rattle.table.specs.Checks.{Verdict}

-- What the call returns, and what the eight rows lent to it hold afterwards.
pub record LeftReduced : Type 0 where
  pub reduced : Reduced
  pub flow : List ℕ
  pub side : List ℕ
  pub work : List ℕ
  pub small : SmallRows

-- The same, from its parts.
abbrev pub left_reduced : Reduced → (flow side work : List ℕ) → SmallRows → LeftReduced
left_reduced reduced flow side work small = record { reduced = reduced; flow = flow; side = side; work = work; small = small }

-- Solving's result with the smaller table's sizes, ends and stamp.
abbrev pub reduced_with : Answer → (nodes arcs source sink stamp : ℕ) → Reduced
reduced_with answer nodes arcs source sink stamp =
    record { answer = answer; nodes = nodes; arcs = arcs; source = source; sink = sink; stamp = stamp }

-- The rows with the smaller table and its origins in their first places.
abbrev pub filled_small : Table → SmallRows → SmallRows
filled_small t old =
    small_rows (filled_with (smaller t).tails old.tails) (filled_with (smaller t).heads old.heads) (filled_with (smaller t).capacities old.capacities)
    (filled_with (node_origins t) old.nodes_from) (filled_with (arc_origins t) old.arcs_from)

-- The smaller table solved under the old stamp, its own stamp raised by one; its flow put back and the side marked afresh.
unfoldable pub shrunk : Table → (stamp : ℕ) → (flow side work : List ℕ) → SmallRows → LeftReduced
shrunk t stamp flow side work small =
    left_reduced
    (reduced_with (solution (smaller t) stamp) (smaller t).nodes (arcs (smaller t)) (smaller t).source (smaller t).sink (raised stamp))
    (back_flow t ++ drop (arcs t) flow) (back_side t ++ drop t.nodes side) (cleared (work_need t.nodes (arcs t)) work) (filled_small t small)

-- Whether rows of these lengths can take a smaller table and its origins: m places each, n for nodes.
unfoldable pub has_small_room : (n m tails heads capacities nodes_from arcs_from : ℕ) → Bool
has_small_room n m tails heads capacities nodes_from arcs_from =
    nat_le m tails && (nat_le m heads && (nat_le m capacities && (nat_le n nodes_from && nat_le m arcs_from)))

-- The rows that a call is given, other than that of the flow, have room: for the side, the work, and a smaller table and its origins.
abbrev pub GivenRoomToReduce : (n : ℕ) (capacities side work small_tails small_heads small_capacities nodes_from arcs_from : List ℕ) → Type 0
GivenRoomToReduce n capacities side work small_tails small_heads small_capacities nodes_from arcs_from =
    (n ≤ length side) × (work_need n (length capacities) ≤ length work)
    × (length capacities ≤ length small_tails) × (length capacities ≤ length small_heads)
    × (length capacities ≤ length small_capacities) × (n ≤ length nodes_from) × (length capacities ≤ length arcs_from)

-- ROOM looks, in its place, at solving's rows and at those.
abbrev pub has_all_room : Table → (flow side work : ℕ) → SmallRows → Bool
has_all_room t flow side work small =
    has_room t.nodes (arcs t) flow side work
    && has_small_room t.nodes (arcs t) (length small.tails) (length small.heads) (length small.capacities) (length small.nodes_from) (length small.arcs_from)

-- What the checks find, in document 01's order, then BOUNDED.
abbrev pub reducing_verdict : BoundedTable → (flow side work : ℕ) → SmallRows → Verdict
reducing_verdict b flow side work small = plain_check b (has_all_room b.table flow side work small)

-- A refusal leaves every lent row unchanged.
unfoldable pub reducing_as : Verdict → Table → (stamp : ℕ) → (flow side work : List ℕ) → SmallRows → LeftReduced
reducing_as (Ok _) t stamp flow side work small = shrunk t stamp flow side work small
reducing_as (Err why) t stamp flow side work small = left_reduced (reduced_with (refusal why.name why.place) 0 0 0 0 0) flow side work small

-- Reducing a table with its stamp, with these rows lent.
unfoldable pub reducing : BoundedTable → (stamp : ℕ) → (flow side work : List ℕ) → SmallRows → LeftReduced
reducing b stamp flow side work small =
    reducing_as (reducing_verdict b (length flow) (length side) (length work) small) b.table stamp flow side work small

-- What reducing means of a table that nothing refuses: demand 2 of the old table's rows; demand 3 of the smaller table, whose D, K and counts they are;
-- the kept nodes and the kept arcs, all of them and rising, stand where its nodes and arcs came from; and each of its arcs is that old one, renumbered.
pub record Reduces (t : Table) (l : LeftReduced) : Type 0 where
  pub best : Best t (take (arcs t) l.flow) (take t.nodes l.side) l.reduced.answer.value
  pub bounded : Bounded (smaller t) l.reduced.answer.scale l.reduced.answer.phases (counts_of l.reduced.answer)
  pub nodes : Lists (keeps_node t) (suc t.nodes) (take l.reduced.nodes l.small.nodes_from)
  pub places : Lists (keeps_arc t) (arcs t) (take l.reduced.arcs l.small.arcs_from)
  pub each : (q : ℕ) → q < l.reduced.arcs
      → OldArc t l.small.nodes_from l.small.arcs_from l.small.tails l.small.heads l.small.capacities q
