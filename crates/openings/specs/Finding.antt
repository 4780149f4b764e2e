-- Document 02, CR 13, the first call: what it answers, and what the lent rows hold afterwards.
use Rattle.std.specs.Prelude.{ℕ, suc, Bool, cond, not, ◌&&◌, ◌≡◌, List, leb, length, take, Ok, Err}
use Rattle.rows.specs.Row.{cleared}
use Rattle.table.specs.Table.{Table, arcs}
use Rattle.table.specs.Checks.{refuse_if, or_else, no_refusal, Verdict}
use Rattle.table.specs.declared.Name.TheVariants.{Room}
use Rattle.minimums.specs.BoundedTable.{BoundedTable}
use Rattle.verdicts.specs.Plain.{plain_verdict}
use Rattle.arcs.specs.Work.{work_need}
use Rattle.solver.specs.declared.Answer.{Answer}
use Rattle.solver.specs.Solving.{refusal, solution, solved}
use Rattle.reach.specs.Side.{marked, side_of, sink_side_of}
use Rattle.listing.specs.Passing.{filled_with, Lists}
use Rattle.openings.specs.declared.Openings.{Openings}
use Rattle.openings.specs.Helping.{nodes_in, places_in, flow_of, helps, source_nodes, sink_nodes, helping_places}

-- What the call returns, and what the six rows lent to it hold afterwards.
pub record LeftOpenings : Type 0 where
  pub openings : Openings
  pub flow : List ℕ
  pub side : List ℕ
  pub work : List ℕ
  pub sources : List ℕ
  pub sinks : List ℕ
  pub places : List ℕ

-- The same, from its parts.
abbrev pub left_openings : Openings → (flow side work sources sinks places : List ℕ) → LeftOpenings
left_openings openings flow side work sources sinks places =
    record { openings = openings; flow = flow; side = side; work = work; sources = sources; sinks = sinks; places = places }

-- Solving's result with three filled lengths.
abbrev pub openings_with : Answer → (sources sinks places : ℕ) → Openings
openings_with answer sources sinks places = record { answer = answer; sources = sources; sinks = sinks; places = places }

-- Whether lists of these lengths can hold the source side, the nodes that reach the sink, and the places.
unfoldable pub has_lists : (sides ends helping : List ℕ) → (sources sinks places : ℕ) → Bool
has_lists sides ends helping sources sinks places = leb (length sides) sources && (leb (length ends) sinks && leb (length helping) places)

-- ROOM, last of all, if a list can't hold its side or the places.
abbrev pub lists_verdict : Table → (sources sinks places : ℕ) → Verdict
lists_verdict t sources sinks places =
    refuse_if (not (has_lists (source_nodes t) (sink_nodes t) (helping_places t) sources sinks places)) Room 0 no_refusal

-- What the checks find: as for solving, then BOUNDED, then the lists' ROOM.
abbrev pub finding_verdict : BoundedTable → (flow side work sources sinks places : ℕ) → Verdict
finding_verdict b flow side work sources sinks places = or_else (plain_verdict b flow side work) (lists_verdict b.table sources sinks places)

-- The solved table's rows, and the three lists in the first places of theirs.
unfoldable pub found : Table → (stamp : ℕ) → (flow side work sources sinks places : List ℕ) → LeftOpenings
found t stamp flow side work sources sinks places =
    left_openings (openings_with (solution t stamp) (length (source_nodes t)) (length (sink_nodes t)) (length (helping_places t)))
    (solved t stamp flow side work).flow (solved t stamp flow side work).side (solved t stamp flow side work).work
    (filled_with (source_nodes t) sources) (filled_with (sink_nodes t) sinks) (filled_with (helping_places t) places)

-- A refusal leaves every lent row unchanged.
unfoldable pub finding_as : Verdict → Table → (stamp : ℕ) → (flow side work sources sinks places : List ℕ) → LeftOpenings
finding_as (Ok _) t stamp flow side work sources sinks places = found t stamp flow side work sources sinks places
finding_as (Err why) t stamp flow side work sources sinks places =
    left_openings (openings_with (refusal why.name why.place) 0 0 0) flow side work sources sinks places

-- Finding the openings of a table with its stamp, with these rows lent.
unfoldable pub finding : BoundedTable → (stamp : ℕ) → (flow side work sources sinks places : List ℕ) → LeftOpenings
finding b stamp flow side work sources sinks places =
    finding_as (finding_verdict b (length flow) (length side) (length work) (length sources) (length sinks) (length places)) b.table stamp flow side work sources sinks places

-- What the lists hold in their filled places: exactly the source side, the nodes that reach the sink, and the places that help, each rising.
pub record HoldsLists (t : Table) (l : LeftOpenings) : Type 0 where
  pub sources : Lists (marked (side_of t (flow_of t))) (suc t.nodes) (take l.openings.sources l.sources)
  pub sinks : Lists (marked (sink_side_of t (flow_of t))) (suc t.nodes) (take l.openings.sinks l.sinks)
  pub places : Lists (helps t) (arcs t) (take l.openings.places l.places)

-- ---- how the code comes to it: for the contracts of private functions

-- What the filling of three lists leaves.
pub record Listed (sides ends helping : List ℕ) (answer : Answer) (sources sinks places : List ℕ) (openings : Openings) (sources_left sinks_left places_left : List ℕ) : Type 0 where
  pub openings_are : openings ≡ openings_with answer (length sides) (length ends) (length helping)
  pub sources_are : sources_left ≡ filled_with sides sources
  pub sinks_are : sinks_left ≡ filled_with ends sinks
  pub places_are : places_left ≡ filled_with helping places

-- Three lists handed over with a solved table's flows and marks: over the lent rows where their lists can hold them, and else ROOM with nothing written.
unfoldable pub handed_lists : (sides ends helping : List ℕ) → (need : ℕ) → Answer → (flows marks : List ℕ) → (flow side work sources sinks places : List ℕ) → LeftOpenings
handed_lists sides ends helping need answer flows marks flow side work sources sinks places =
    cond (has_lists sides ends helping (length sources) (length sinks) (length places))
    (left_openings (openings_with answer (length sides) (length ends) (length helping)) (filled_with flows flow) (filled_with marks side) (cleared need work)
    (filled_with sides sources) (filled_with ends sinks) (filled_with helping places))
    (left_openings (openings_with (refusal Room 0) 0 0 0) flow side work sources sinks places)

-- The same, of the lists that the marks of both sides give.
abbrev pub handed : (n : ℕ) → Answer → (tails heads flows marks drains : List ℕ) → (flow side work sources sinks places : List ℕ) → LeftOpenings
handed n answer tails heads flows marks drains flow side work sources sinks places =
    handed_lists (nodes_in marks) (nodes_in drains) (places_in marks drains tails heads)
    (work_need n (length tails)) answer flows marks flow side work sources sinks places
