-- Document 02, CR 7: the run that stops as soon as the net flow into the sink reaches q.
use Rattle.std.specs.Prelude.{ℕ, zero, suc, ◌-◌, ◌≤◌, ◌<◌, ◌≡◌, Bool, false, cond, List, leb}
use Rattle.rows.specs.Row.{at_place}
use Rattle.network.specs.Network.{inflow, outflow}
use Rattle.table.specs.Table.{Table, network_of}
use Rattle.run.specs.Phase.{Run, run, value}
use Rattle.run.specs.Rows.{steps}
use Rattle.until.specs.Stepwise.{stage_after, after_steps}

-- The net flow into the sink.
unfoldable pub into_sink : Table → List ℕ → ℕ
unfolding inflow outflow
into_sink t flow = inflow (network_of t) (at_place flow) t.sink - outflow (network_of t) (at_place flow) t.sink

-- Whether it has reached q.
abbrev pub reaches : Table → (q : ℕ) → Run → Bool
reaches t q r = leb q (into_sink t r.state.flow)

-- Whether the run stops after its first j steps: the net flow into the sink has reached q.
abbrev pub stops_after : Table → (q j : ℕ) → Bool
stops_after t q j = reaches t q (after_steps t j)

-- How many of its first `most` steps the run takes, if it stops as soon as the net flow into the sink reaches q.
unfoldable pub steps_until : Table → (q most : ℕ) → ℕ
unfolding into_sink stage_after
steps_until t q zero = zero
steps_until t q (suc most) = let j = steps_until t q most in cond (stops_after t q j) j (suc j)

-- The run stopped at the first moment at which the net flow into the sink has reached q, or else at its end.
unfoldable pub stopped : Table → (q : ℕ) → Run
unfolding steps_until run
stopped t q = after_steps t (steps_until t q (steps (run t).counts))

-- What CR 7 says of it: the yes means exactly that the full answer's value is at least q; its steps are a first part of the full
-- run's, or all of them when the answer is no; before its last step the net flow into the sink had not reached q.
pub record Stops (t : Table) (q : ℕ) (r : Run) : Type 0 where
  pub yes : reaches t q r ≡ leb q (value t (run t).state.flow)
  pub part : r ≡ after_steps t (steps r.counts)
  pub saturating : r.counts.saturating ≤ (run t).counts.saturating
  pub nonsaturating : r.counts.nonsaturating ≤ (run t).counts.nonsaturating
  pub relabels : r.counts.relabels ≤ (run t).counts.relabels
  pub all : reaches t q r ≡ false → r ≡ run t
  pub first : (j : ℕ) → j < steps r.counts → into_sink t (after_steps t j).state.flow < q
