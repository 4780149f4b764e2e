-- What the flow row and the work row hold while the run goes on: for the contracts of the run over one work row.
use Rattle.std.specs.Prelude.{ℕ, ◌+◌, ◌-◌, ◌≤◌, ◌<◌, ◌≡◌, List, eqb, length, Option}
use Rattle.rows.specs.Row.{Node, at_place, at_node}
use Rattle.rows.specs.Sum.{only}
use Rattle.table.specs.Table.{Table}
use Rattle.arcs.specs.Residual.{far, list}
use Rattle.arcs.specs.Lists.{joined}
use Rattle.arcs.specs.Sort.{entries_before}
use Rattle.arcs.specs.Work.{excess_part, labels_part, SameLists}
use Rattle.run.specs.Start.{State}
use Rattle.run.specs.Scale.{phase_count, scale}
use Rattle.run.specs.Relabel.{new_label}
use Rattle.run.specs.Phase.{Run, step, delta_after, after as after_phases, run}
use Rattle.run.specs.Rows.{state_of, run_of, steps}
use Rattle.run.specs.declared.Counts.{Counts}
use Rattle.run.specs.declared.Outcome.{Outcome}
use Rattle.until.specs.Stepwise.{after_steps}
use Rattle.until.specs.Stopping.{into_sink, steps_until, stopped}
use Rattle.until.specs.Gain.{gain}
use Rattle.looking.specs.Looked.{Looked, HighBefore}
use Rattle.tournament.specs.Tournament.{LowLabels, Chose}
use Rattle.steps.specs.declared.Lowest.{Lowest}
use Rattle.work.specs.declared.Stop.{Stop}

-- The state of n nodes that a flow row and a work row hold.
abbrev pub state_in : (n : ℕ) (flow work : List ℕ) → State
state_in n flow work = state_of flow (excess_part n work) (labels_part n work)

-- The run that they hold, with these counts.
abbrev pub run_in : (n : ℕ) (flow work : List ℕ) → Counts → Run
run_in n flow work counts = run_of (state_in n flow work) counts

-- What a relabel of node i is to do: its new label, and a position of its list before which no residual arc leads below that.
pub record Relabels (t : Table) (st : State) (i : ℕ) (found : Lowest) : Type 0 where
  pub label_is : found.label ≡ new_label t st i
  pub within : found.at ≤ length (list t i)
  pub high : HighBefore t st i (list t i) found.at found.label

-- Two rows by node hold the same of every node but i and j.
abbrev pub Apart : ℕ → ℕ → List ℕ → List ℕ → Type 0
Apart i j before after = (v : ℕ) → (v ≡ i → ⊥) → (v ≡ j → ⊥) → at_node after v ≡ at_node before v

-- What left node i's excess, if it went to the sink.
abbrev pub brought : (sink other had has : ℕ) → ℕ
brought sink other had has = only (eqb other sink) (had - has)

-- What a step at node i leaves: document 01's step, how far each list was looked through, and nodes other than i and one more as they were;
-- that one, if it is another, has a label one less, and if it is the sink, it was brought what left node i.
pub record Stepped (t : Table) (delta : ℕ) (before : Run) (i : ℕ) (after : Run) (looked : List ℕ) (other : ℕ) : Type 0 where
  pub is : after ≡ step t delta before i
  pub looked_on : Looked t after.state looked
  pub low : LowLabels after.state.label
  pub other_node : Node t.nodes other
  pub other_down : (other ≡ i → ⊥) → at_node before.state.label other + 1 ≡ at_node before.state.label i
  pub excess_apart : Apart i other before.state.excess after.state.excess
  pub label_apart : Apart i other before.state.label after.state.label
  pub falls : other ≡ t.sink → at_node after.state.excess i ≤ at_node before.state.excess i
  pub brings : brought t.sink other (at_node before.state.excess i) (at_node after.state.excess i) ≡ gain t delta before.state i

-- What the run keeps beside document 01's state: how far each list was looked through, the next choice, and the tournament of the other nodes' keys.
pub record Ready (t : Table) (delta : ℕ) (st : State) (looked tree : List ℕ) (next : Option ℕ) : Type 0 where
  pub lists : Looked t st looked
  pub chose : Chose t.nodes delta st.excess st.label tree next

-- A row has the far ends of the arcs in the lists of nodes 1 to i, each at its entry's position: node v's behind those of the nodes before v.
abbrev pub FarTo : Table → ℕ → List ℕ → Type 0
FarTo t i ends = (v j : ℕ) → Node i v → j < length (list t v) → at_place ends (entries_before (list t) v + j) ≡ far t v (at_place (list t v) j)

-- A row has them of all nodes' lists.
pub record FarRow (t : Table) (ends : List ℕ) : Type 0 where
  pub room : length (joined (list t) t.nodes) ≤ length ends
  pub far_is : FarTo t t.nodes ends

-- A phase at Delta is to come: the run stands after some of its phases, and not all.
pub record Between (t : Table) (delta : ℕ) (now : Run) : Type 0 where
  pub done : ℕ
  pub more : done < phase_count t
  pub delta_is : delta ≡ delta_after t done
  pub run_is : now ≡ after_phases t done

-- The run that is to stop at q is under way: it took each step so far, and this is its net flow into the sink.
pub record Underway (t : Table) (q : ℕ) (now : Run) (sink : ℕ) : Type 0 where
  pub part_is : after_steps t (steps now.counts) ≡ now
  pub each : steps_until t q (steps now.counts) ≡ steps now.counts
  pub sink_is : sink ≡ into_sink t now.state.flow

-- What the run of an accepted table that stops at q leaves: its flow, counts and net flow into the sink; K and D of the whole run; the lists stand in the work row as they did.
pub record RanUntil (t : Table) (q : ℕ) (work : List ℕ) (stop : Stop) (flow_left work_left : List ℕ) : Type 0 where
  pub flow_is : flow_left ≡ (stopped t q).state.flow
  pub counts_are : stop.counts ≡ (stopped t q).counts
  pub sink_is : stop.sink ≡ into_sink t (stopped t q).state.flow
  pub phases_are : stop.phases ≡ phase_count t
  pub scale_is : stop.scale ≡ scale t
  pub lists_stay : SameLists t.nodes work work_left

-- What the run of an accepted table leaves: its flow, counts, K and D; the lists stand in the work row as they did.
pub record Ran (t : Table) (work : List ℕ) (outcome : Outcome) (flow_left work_left : List ℕ) : Type 0 where
  pub flow_is : flow_left ≡ (run t).state.flow
  pub counts_are : outcome.counts ≡ (run t).counts
  pub phases_are : outcome.phases ≡ phase_count t
  pub scale_is : outcome.scale ≡ scale t
  pub lists_stay : SameLists t.nodes work work_left
