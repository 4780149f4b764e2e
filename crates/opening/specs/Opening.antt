-- Document 02, CR 12: a chair opens. The old table, its flow, a place and a new capacity give the new answer.
use Rattle.std.specs.Prelude.{◌≡◌, ℕ, not, List, ◌++◌, length, take, drop, nat_le, nat_lt, slice_set, Ok, Err}
use Rattle.rows.specs.Row.{cleared}
use Rattle.table.specs.Table.{Table, table_of, arcs, capacity, network_of}
use Rattle.table.specs.Checks.{refuse_if, or_else, no_refusal, Verdict}
use Rattle.table.specs.declared.Name.TheVariants.{Place, Capacity, Lower, NotMax}
use Rattle.reach.specs.Side.{side_of}
use Rattle.run.specs.Phase.{run, value, no_steps}
use Rattle.run.specs.Demands.{Best}
use Rattle.arcs.specs.Work.{work_need}
use Rattle.stamps.specs.Stamp.{raised}
use Rattle.solver.specs.declared.Answer.{Answer}
use Rattle.solver.specs.Solving.{Left, left, refusal, answer_with}
use Rattle.minimums.specs.BoundedTable.{BoundedTable}
use Rattle.verdicts.specs.Plain.{plain_verdict}
use Rattle.shortest.specs.Augment.{settled, GoesOn}
use Rattle.opening.specs.Maximum.{MaximumFlow, is_maximum}

-- The new table: the old one with the new capacity at the place.
abbrev pub opened : Table → (place capacity : ℕ) → Table
opened t place capacity = table_of t.nodes t.source t.sink t.tails t.heads (slice_set t.capacities place capacity)

-- PLACE, m or above; CAPACITY, a new number above the limit; LOWER, one below the old; NOTMAX, where the row is not a maximum flow of the old table.
unfoldable pub change_verdict : Table → (place capacity : ℕ) → (flow : List ℕ) → Verdict
unfolding is_maximum
change_verdict t place new flow =
    refuse_if (nat_le (arcs t) place) Place place
    (refuse_if (nat_lt 1000000 new) Capacity place
    (refuse_if (nat_lt new (capacity t place)) Lower 0
    (refuse_if (not (is_maximum t flow)) NotMax 0 no_refusal)))

-- The order: the old table's own refusals as for solving, BOUNDED, then these. Of side and work row only the lengths count.
unfoldable pub opening_verdict : BoundedTable → (place capacity : ℕ) → (flow : List ℕ) → (side work : ℕ) → Verdict
unfolding change_verdict
opening_verdict b place capacity flow side work =
    or_else (plain_verdict b (length flow) side work) (change_verdict b.table place capacity flow)

-- The answer: the raised stamp and the value; D, K and the counts are 0.
abbrev pub opened_answer : (stamp value : ℕ) → Answer
opened_answer stamp value = answer_with (raised stamp) value 0 0 no_steps

-- A table with a flow of it: chains are filled until the sink can't be reached. The flow row holds the m flows at the end, the side row their n marks, later places of both as they were; the work row is cleared.
unfoldable pub went_on : Table → (stamp : ℕ) → (flow side work : List ℕ) → Left
unfolding settled
went_on t stamp flow side work =
    let last = settled (network_of t) (take (arcs t) flow) in
    left (opened_answer stamp (value t last))
    (last ++ drop (arcs t) flow)
    (side_of t last ++ drop t.nodes side)
    (cleared (work_need t.nodes (arcs t)) work)

-- A refusal returns its number and place and leaves every lent row unchanged.
unfoldable pub opening_as : Verdict → Table → (stamp : ℕ) → (flow side work : List ℕ) → Left
unfolding went_on
opening_as (Ok _) new stamp flow side work = went_on new stamp flow side work
opening_as (Err why) new stamp flow side work = left (refusal why.name why.place) flow side work

-- Opening the arc at the place of the old table to the new capacity, with these rows lent.
unfoldable pub opening : BoundedTable → (stamp place capacity : ℕ) → (flow side work : List ℕ) → Left
unfolding opening_verdict opening_as
opening b stamp place capacity flow side work =
    opening_as (opening_verdict b place capacity flow (length side) (length work)) (opened b.table place capacity) stamp flow side work

-- What an opening that refuses nothing gives: the row was a maximum flow of the old table; document 02's chains lead from it to the new flow; value and side are those of solving the new table afresh, and the best.
pub record Reopens (t new : Table) (flow : List ℕ) (l : Left) : Type 0 where
  pub was : MaximumFlow t flow
  pub chains : GoesOn (network_of new) (take (arcs new) flow) (take (arcs new) l.flow)
  pub same_value : l.answer.value ≡ value new (run new).state.flow
  pub same_side : take new.nodes l.side ≡ side_of new (run new).state.flow
  pub best : Best new (take (arcs new) l.flow) (take new.nodes l.side) l.answer.value
