-- Document 01, "The run": steps with their counts, phases, and the whole run.
use Rattle.std.specs.Prelude.{ℕ, zero, suc, ◌+◌, ◌-◌, ◌*◌, Option, Some, None, Bool, cond, List}
use Rattle.rows.specs.Row.{at_place}
use Rattle.network.specs.Network.{inflow, outflow}
use Rattle.table.specs.Table.{Table, arcs, network_of}
use Rattle.arcs.specs.Residual.{list}
use Rattle.run.specs.Start.{State, start}
use Rattle.run.specs.Scale.{scale_of, phase_count}
use Rattle.run.specs.Choice.{choose}
use Rattle.run.specs.Push.{first_eligible, saturates, push}
use Rattle.run.specs.Relabel.{relabel}
use Rattle.run.specs.declared.Counts.{Counts}

-- A state, and how many steps of each kind led to it.
pub record Run : Type 0 where
  pub state : State
  pub counts : Counts

-- No steps yet.
abbrev pub no_steps : Counts
no_steps = record { saturating = 0; nonsaturating = 0; relabels = 0 }

-- One more push, saturating or not.
abbrev pub one_push : Counts → Bool → Counts
one_push c full =
    record {
      saturating = c.saturating + cond full 1 0;
      nonsaturating = c.nonsaturating + cond full 0 1;
      relabels = c.relabels;
    }

-- One more relabel.
abbrev pub one_relabel : Counts → Counts
one_relabel c = record { saturating = c.saturating; nonsaturating = c.nonsaturating; relabels = c.relabels + 1 }

-- At node i: a push along the arc that was found, or a relabel if there is none.
unfoldable pub step_at : Table → ℕ → Run → ℕ → Option ℕ → Run
unfolding push relabel
step_at t delta r i (Some k) =
    record { state = push t delta r.state i k; counts = one_push r.counts (saturates t delta r.state i k) }
step_at t delta r i None = record { state = relabel t r.state i; counts = one_relabel r.counts }

-- One step at the chosen node i.
unfoldable pub step : Table → ℕ → Run → ℕ → Run
unfolding step_at first_eligible list
step t delta r i = step_at t delta r i (first_eligible t r.state i (list t i))

-- At most `left` steps: having no node to choose ends the phase.
unfoldable pub phase_for : Table → ℕ → ℕ → Run → Run
unfolding choose step
phase_for t delta zero r = r
phase_for t delta (suc left) r = elim (choose t delta r.state) [ None ↦ r | Some i ↦ phase_for t delta left (step t delta r i) ]

-- More steps than a phase takes (proved: phase_ended).
abbrev pub enough : Table → ℕ
enough t = 6 * (t.nodes * t.nodes) + 2 * (t.nodes * arcs t)

-- A phase at Delta.
unfoldable pub phase : Table → ℕ → Run → Run
unfolding phase_for
phase t delta r = phase_for t delta (enough t) r

-- Delta after d phases: D, D/2, .., 1, and 0 after the last.
abbrev pub delta_after : Table → ℕ → ℕ
delta_after t d = scale_of (phase_count t - d)

-- The run after its first d phases.
unfoldable pub after : Table → ℕ → Run
unfolding phase start phase_count scale_of
after t zero = record { state = start t; counts = no_steps }
after t (suc d) = phase t (delta_after t d) (after t d)

-- The state after the first d phases and at most j steps of the next.
abbrev pub during : Table → (d j : ℕ) → State
during t d j = (phase_for t (delta_after t d) j (after t d)).state

-- The whole run: K phases.
unfoldable pub run : Table → Run
unfolding after
run t = after t (phase_count t)

-- The value: the net flow out of s.
unfoldable pub value : Table → List ℕ → ℕ
unfolding inflow outflow
value t flow = outflow (network_of t) (at_place flow) t.source - inflow (network_of t) (at_place flow) t.source
