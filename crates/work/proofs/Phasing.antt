-- Laws of the loop of a phase: how the phase stands at each moment.
use Rattle.std.specs.Prelude.{Some, None}
use Prim.Native.Nat.{ℕ, ◌+◌, ◌-◌, ◌/◌, ◌^◌, ◌<◌}
use native.Mathlib.Numerals.{add-one}
use native.Mathlib.Omega.{arith}
use mathlib.Core.Path.{◌≡◌, ap, ap₂, sym, subst⁻¹, ◌∙◌}
use Rattle.rows.specs.Row.{Node}
use Rattle.table.specs.Table.{Table}
use Rattle.table.specs.Accepted.{Accepted}
use Rattle.run.specs.Start.{State, start}
use Rattle.run.specs.Scale.{scale_of, phase_count}
use Rattle.run.specs.Choice.{choose}
use Rattle.run.specs.Phase.{Run, no_steps, step, phase, enough, delta_after, after, run}
use Rattle.run.specs.Rows.{run_of, steps, InPhase}
use Rattle.run.proofs.Whole.{delta_half}
use Rattle.run.proofs.Moments.{Moment, moment_first, moment_facts, moment_in_phase, moment_node, moment_step, moment_end, moment_few}
use Rattle.looking.specs.Looked.{ValidLabels}
use Rattle.looking.proofs.Passing.{facts_valid}
use Rattle.work.specs.Held.{Between}

-- The phase at Delta that began at `first` stands at `now`, `size` steps on.
pub record Amid (t : Table) (delta : ℕ) (first now : Run) : Type 0 where
  pub between : Between t delta first
  pub size : ℕ
  pub moment : Moment t between.done now size
  pub counted : steps now.counts ≡ steps first.counts + size

-- How many steps may still come.
abbrev pub left : Table → (first now : Run) → ℕ
left t first now = (steps first.counts + enough t) - steps now.counts

module _ (t : Table) (ok : Accepted t) (delta : ℕ) (first : Run) where
  -- A phase begins.
  pub amid_first : Between t delta first → Amid t delta first first
  amid_first between =
      record {
        between = between;
        size = 0;
        moment =
            subst⁻¹ (λ (r : Run). Moment t between.done r 0) between.run_is (moment_first t ok between.done between.more);
        counted = omega arith;
      }

  module _ (now : Run) (amid : Amid t delta first now) where
    -- The rows are in order,
    pub amid_in_phase : InPhase t delta now.state
    amid_in_phase =
        subst⁻¹ (λ (x : ℕ). InPhase t x now.state) amid.between.delta_is
        (moment_in_phase t ok amid.between.done amid.between.more now amid.size amid.moment)

    -- labels are valid,
    pub amid_valid : ValidLabels t now.state
    amid_valid =
        facts_valid t (delta_after t amid.between.done) now.state
        (moment_facts t ok amid.between.done amid.between.more now amid.size amid.moment)

    -- and there are few steps so far.
    pub amid_few : steps now.counts < 2 ^ 32
    amid_few = moment_few t ok amid.between.done amid.between.more now amid.size amid.moment

    -- The choice at Delta, in the run's words.
    same_choice : choose t delta now.state ≡ choose t (delta_after t amid.between.done) now.state
    same_choice = ap (λ (x : ℕ). choose t x now.state) amid.between.delta_is

    module _ (i : ℕ) (chosen : choose t delta now.state ≡ Some i) where
      -- The chosen node is one of 1 to n.
      pub amid_node : Node t.nodes i
      amid_node = moment_node t ok amid.between.done amid.between.more now amid.size amid.moment i (sym same_choice ∙ chosen)

      -- A step is left to take,
      next : (amid.size < enough t) × Moment t amid.between.done (step t delta now i) (amid.size + 1)
      next =
          let found = moment_step t ok amid.between.done amid.between.more now amid.size amid.moment i (sym same_choice ∙ chosen) in
          (found.0, subst⁻¹ (λ (x : ℕ). Moment t amid.between.done (step t x now i) (amid.size + 1)) amid.between.delta_is found.1)

      -- is counted once,
      counted_once : steps (step t delta now i).counts ≡ steps first.counts + (amid.size + 1)
      counted_once =
          omega (arith, next.1.trail.counted, next.1.trail.size_is, ap (λ (r : Run). steps r.counts) amid.between.run_is)

      -- leads on,
      pub amid_step : Amid t delta first (step t delta now i)
      amid_step = record { between = amid.between; size = amid.size + 1; moment = next.1; counted = counted_once }

      -- and leaves one less.
      pub amid_less : left t first (step t delta now i) < left t first now
      amid_less = omega (arith, next.0, amid.counted, counted_once)

    -- With no node to choose the phase is over.
    pub amid_end : choose t delta now.state ≡ None → now ≡ phase t delta first
    unfolding after
    amid_end none =
        moment_end t ok amid.between.done amid.between.more now amid.size amid.moment (sym same_choice ∙ none)
        ∙ ap₂ (phase t) (sym amid.between.delta_is) (sym amid.between.run_is)

-- ---- from phase to phase

module _ (t : Table) where
  -- Before the first phase Delta is D,
  pub first_delta : (count : ℕ) → count ≡ phase_count t → scale_of count ≡ delta_after t 0
  first_delta count e = let all : count ≡ phase_count t - 0 = omega arith in ap scale_of all

  -- and the run is the start.
  pub first_run : {st : State} → st ≡ start t → run_of st no_steps ≡ after t 0
  unfolding after
  first_run e = ap (λ (st : State). run_of st no_steps) e

  -- One more phase: Delta is halved,
  pub next_delta : Accepted t → (done delta : ℕ) → done < phase_count t → delta ≡ delta_after t done → delta / 2 ≡ delta_after t (done + 1)
  next_delta ok done delta l e = rw add-one (ap (λ (x : ℕ). x / 2) e ∙ delta_half t ok done l)

  -- and the run goes on.
  pub next_run : (done delta : ℕ) (now then : Run) → delta ≡ delta_after t done → now ≡ after t done → then ≡ phase t delta now → then ≡ after t (done + 1)
  unfolding after
  next_run done delta now then delta_is run_is phased = rw add-one (phased ∙ ap₂ (phase t) delta_is run_is)

  -- With all phases done it is whole.
  pub whole_run : (done : ℕ) → done ≡ phase_count t → after t done ≡ run t
  unfolding run
  whole_run done e = ap (after t) e
