-- What code that follows the run needs at each moment: the rows in order before each step, and how the phase goes on.
use Rattle.std.specs.Prelude.{Some, None}
use Prim.Native.Nat.{ℕ, zero, suc, ◌+◌, ◌-◌, ◌*◌, ◌^◌, ◌≤◌, ◌<◌}
use mathlib.Core.Path.{◌≡◌, refl, ap, sym, ◌∙◌}
use native.Mathlib.Omega.{arith}
use native.Mathlib.Nat.{mul-le-mul}
use Rattle.rows.specs.Row.{Node}
use Rattle.network.proofs.Bounds.{saturating_in_all, relabels_in_all, nonsaturating_in_all}
use Rattle.table.specs.Table.{Table, arcs, network_of}
use Rattle.table.specs.Accepted.{Accepted}
use Rattle.run.specs.Start.{State, start}
use Rattle.run.specs.Scale.{phase_count, scale}
use Rattle.run.specs.Choice.{choose}
use Rattle.run.specs.Phase.{Run, step, phase_for, enough, phase, delta_after, after}
use Rattle.run.specs.Rows.{steps, Fits, InPhase}
use Rattle.run.proofs.Networks.{functions_of, FactsOf, accepted_sound, no_minimums}
use Rattle.run.proofs.Choices.{choose_chosen}
use Rattle.run.proofs.Trails.{Trail, no_trail, step_trail, trail_facts}
use Rattle.run.proofs.Courses.{trail_short}
use Rattle.run.proofs.Whole.{total_bound, phases_bound, begin_facts, delta_positive, Course, course, course_facts}

-- The facts put the rows in order.
facts_in_phase : (t : Table) → Accepted t → (delta : ℕ) (st : State) → Fits t st → FactsOf t delta st → InPhase t delta st
facts_in_phase t ok delta st fits facts =
    record {
      fits = fits;
      within = record { room = omega (arith, fits.flow); below = facts.pre.high };
      most = λ k l. facts.small (suc k) (omega (arith, fits.excess));
      together = omega (arith, total_bound t ok st fits facts.pre);
    }

-- A moment of the phase after the first d: the steps so far, and what is left of the phase from here.
pub record Moment (t : Table) (d : ℕ) (now : Run) (size : ℕ) : Type 0 where
  pub trail : Trail t (delta_after t d) (after t d) now size
  pub rest : after t (suc d) ≡ phase_for t (delta_after t d) (enough t - size) now

-- One step of what is left.
phase_for_step : (t : Table) (delta left : ℕ) (r : Run) (i : ℕ) → choose t delta r.state ≡ Some i
    → phase_for t delta (suc left) r ≡ phase_for t delta left (step t delta r i)
unfolding phase_for
phase_for_step t delta left r i e = ap (λ c. elim c as (λ _. Run) [ None ↦ r | Some i ↦ phase_for t delta left (step t delta r i) ]) e

-- Nothing is left where no node is to be chosen.
phase_for_end : (t : Table) (delta left : ℕ) (r : Run) → choose t delta r.state ≡ None → phase_for t delta left r ≡ r
unfolding phase_for
phase_for_end t delta zero r e = refl
phase_for_end t delta (suc left) r e = ap (λ c. elim c as (λ _. Run) [ None ↦ r | Some i ↦ phase_for t delta left (step t delta r i) ]) e

module _ (t : Table) (ok : Accepted t) (d : ℕ) (l : d < phase_count t) where
  -- The phases before it.
  before : Course t d
  before = course t ok d (omega arith)

  -- A phase begins.
  pub moment_first : Moment t d (after t d) 0
  unfolding after phase
  moment_first =
      let same : enough t ≡ enough t - 0 = omega arith in
      record { trail = no_trail t (delta_after t d) (after t d) before.fits; rest = ap (λ n. phase_for t (delta_after t d) n (after t d)) same }

  module _ (now : Run) (size : ℕ) (moment : Moment t d now size) where
    -- At each moment the theory's facts hold,
    pub moment_facts : FactsOf t (delta_after t d) now.state
    moment_facts = trail_facts t ok (delta_after t d) (after t d) (course_facts t ok d before) now size moment.trail

    -- and the rows are in order.
    pub moment_in_phase : InPhase t (delta_after t d) now.state
    moment_in_phase = facts_in_phase t ok (delta_after t d) now.state moment.trail.fits moment_facts

    -- A node is chosen: it is one of 1 to n,
    pub moment_node : (i : ℕ) → choose t (delta_after t d) now.state ≡ Some i → Node t.nodes i
    moment_node i e = (choose_chosen t (delta_after t d) now.state i e).node

    -- a step is left, and the step at it leads to the next moment.
    pub moment_step : (i : ℕ) → choose t (delta_after t d) now.state ≡ Some i
        → (size < enough t) × Moment t d (step t (delta_after t d) now i) (size + 1)
    moment_step i e =
        let delta : ℕ = delta_after t d in
        let facts : FactsOf t delta (after t d).state = course_facts t ok d before in
        let trail : Trail t delta (after t d) (step t delta now i) (size + 1) = step_trail t ok delta (after t d) facts now size moment.trail i e in
        let short : size + 1 ≤ enough t =
        trail_short t ok delta (after t d) facts (delta_positive t ok d l) (step t delta now i) (size + 1) trail in
        let left : enough t - size ≡ suc (enough t - (size + 1)) = omega arith in (
          omega arith,
          record {
            trail = trail;
            rest = moment.rest ∙ ap (λ n. phase_for t delta n now) left ∙ phase_for_step t delta (enough t - (size + 1)) now i e;
          },
        )

    -- None is: the phase has ended.
    pub moment_end : choose t (delta_after t d) now.state ≡ None → now ≡ after t (suc d)
    moment_end e = sym (moment.rest ∙ phase_for_end t (delta_after t d) (enough t - size) now e)

    -- So far there are fewer than 2^32 steps.
    pub moment_few : steps now.counts < 2 ^ 32
    moment_few =
        let N = network_of t in
        let sound = accepted_sound t ok in
        let begin = functions_of (start t) in
        let few : t.nodes ≤ 512 = ok.rows.ends.few_nodes in
        let arcs_few : arcs t ≤ 4096 = omega (arith, ok.rows.ends.few_arcs, ok.rows.capacities_long) in
        let pairs : t.nodes * t.nodes ≤ 512 * 512 = mul-le-mul few few in
        let ends : t.nodes * arcs t ≤ 512 * 4096 = mul-le-mul few arcs_few in
        let phased : 4 * (t.nodes * t.nodes) * (d + 1) ≤ 4 * (512 * 512) * 33 =
        mul-le-mul {n₂ = 4 * (512 * 512)} {m₂ = 33} (omega arith) (omega (arith, phases_bound t ok)) in
        omega (
          arith,
          moment.trail.counted,
          before.counted,
          saturating_in_all N sound (no_minimums t) (scale t) begin (begin_facts t ok) before.phases moment.trail.steps,
          relabels_in_all N sound (no_minimums t) (scale t) begin (begin_facts t ok) before.phases moment.trail.steps,
          nonsaturating_in_all N sound (no_minimums t) (scale t) begin (begin_facts t ok) before.phases moment.trail.steps
              (delta_positive t ok d l),
        )
