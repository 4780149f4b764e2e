-- The whole run of an accepted table: whole phases of the theory down to Delta = 0.
use Rattle.std.specs.Prelude.{Some, None}
use Prim.Native.Nat.{ℕ, zero, suc, ◌+◌, ◌-◌, ◌*◌, ◌/◌, ◌≤◌, ◌<◌}
use mathlib.Core.Path.{◌≡◌, ap, subst, ◌∙◌}
use mathlib.Core.List.{List, [], ◌∷◌}
use native.Mathlib.Omega.{arith}
use lib.ListN.{length}
use Rattle.rows.specs.Sum.{sum, total}
use Rattle.rows.specs.Row.{at_node, at_place}
use Rattle.rows.proofs.Sums.{sum_bound, sum_term}
use Rattle.network.proofs.Notions.{Preflow}
use Rattle.network.proofs.Steps.{Phases, no_steps_lem, no_phases}
use Rattle.network.proofs.Steps.{phase as next_phase}
use Rattle.network.proofs.Bounds.{phases_hold, nonsaturating_in_phase, relabels_in_all, saturating_in_all}
use Rattle.network.proofs.Holding.{excess_in_all}
use Rattle.table.specs.Table.{Table, arcs, capacity, network_of}
use Rattle.table.specs.Accepted.{Accepted}
use Rattle.run.specs.Start.{State, start}
use Rattle.run.specs.Scale.{largest, scale_of, phase_count, scale}
use Rattle.arcs.specs.Residual.{list}
use Rattle.run.specs.Choice.{choose}
use Rattle.run.specs.Push.{first_eligible}
use Rattle.run.specs.Phase.{Run, phase_for, enough, phase, no_steps, delta_after, after, during, run}
use Rattle.run.specs.Demands.{Scaled, OneAbove, Bounded}
use Rattle.run.specs.Rows.{Fits}
use Rattle.run.proofs.Networks.{functions_of, FactsOf, accepted_sound, no_minimums}
use Rattle.run.proofs.Choices.{choose_ended}
use Rattle.run.proofs.Trails.{Counted, Trail, no_trail, new_label_lem}
use Rattle.run.proofs.Courses.{Led, phase_for_led, phase_led, phase_ended}
use Rattle.run.proofs.Beginning.{start_fits, start_facts}
use Rattle.run.proofs.Doubling.{largest_most, scaled, phases_most, some_scale, halved}

-- A node's excess is at most the largest.
node_largest : (row : List ℕ) (i : ℕ) → at_node row i ≤ largest row
node_largest row zero = omega arith
node_largest row (suc k) = largest_most row k

-- The largest number of a row is below what bounds each of its places.
largest_bound : (b : ℕ) (row : List ℕ) → ((k : ℕ) → k < length row → at_place row k ≤ b) → largest row ≤ b
unfolding largest
largest_bound b [] each = omega arith
largest_bound b (x ∷ row) each = omega (arith, each 0 (omega arith), largest_bound b row (λ k l. each (suc k) (omega arith)))

module _ (t : Table) (ok : Accepted t) where
  -- All capacities together are at most 4,096,000,000.
  pub capacity_in_all : sum (arcs t) (capacity t) ≤ 4096000000
  capacity_in_all =
      omega (arith, sum_bound (arcs t) 1000000 (capacity t) ok.rows.small, ok.rows.ends.few_arcs, ok.rows.capacities_long)

  -- So all excesses of a state's row together are.
  pub total_bound : (st : State) → Fits t st → Preflow (network_of t) (functions_of st).flow (functions_of st).excess → total st.excess ≤ 4096000000
  total_bound st fits pre =
      omega (
        arith,
        ap (λ n. sum n (at_place st.excess)) fits.excess,
        excess_in_all (network_of t) (accepted_sound t ok) (functions_of st).flow (functions_of st).excess pre,
        capacity_in_all,
      )

  -- The largest excess after the start fits 32 bits.
  start_largest : largest (start t).excess ≤ 4096000000
  start_largest =
      omega (
        arith,
        largest_bound (total (start t).excess) (start t).excess (λ k l. sum_term (length (start t).excess) (at_place (start t).excess) k l),
        total_bound (start t) (start_fits t) (start_facts t ok (largest (start t).excess) (λ i v. node_largest (start t).excess i)).pre,
      )

  -- D and K are as document 01 says,
  pub start_scaled : Scaled (largest (start t).excess) (scale t) (phase_count t)
  unfolding phase_count
  start_scaled = scaled (largest (start t).excess) (omega (arith, start_largest))

  -- and K is at most 33.
  pub phases_bound : phase_count t ≤ 33
  unfolding phase_count
  phases_bound = phases_most (largest (start t).excess)

  -- D is at least each excess after the start, so the facts hold there.
  pub begin_facts : FactsOf t (scale t) (start t)
  begin_facts = start_facts t ok (scale t) (λ i v. omega (arith, node_largest (start t).excess i, start_scaled.above))

-- The first d phases are phases of the theory, counted alike.
pub record Course (t : Table) (d : ℕ) : Type 0 where
  pub saturated : ℕ
  pub unsaturated : ℕ
  pub relabelled : ℕ
  pub phases : Phases (network_of t) (scale t) (functions_of (start t)) (delta_after t d) (functions_of (after t d).state) d saturated unsaturated relabelled
  pub counted : Counted no_steps (after t d).counts saturated unsaturated relabelled
  pub fits : Fits t (after t d).state

module _ (t : Table) (ok : Accepted t) where
  -- While a phase is left Delta is above 0,
  pub delta_positive : (d : ℕ) → d < phase_count t → 0 < delta_after t d
  delta_positive d l = some_scale (phase_count t - d) (omega arith)

  -- and the next is half of it.
  pub delta_half : (d : ℕ) → d < phase_count t → delta_after t d / 2 ≡ delta_after t (suc d)
  delta_half d l =
      let less : phase_count t - d - 1 ≡ phase_count t - suc d = omega arith in
      halved (phase_count t - d) (omega arith) ∙ ap scale_of less

  -- The facts hold after the phases of a course.
  pub course_facts : (d : ℕ) → Course t d → FactsOf t (delta_after t d) (after t d).state
  course_facts d course =
      (phases_hold (network_of t) (accepted_sound t ok) (no_minimums t) (scale t) (functions_of (start t)) (begin_facts t ok) course.phases).0

  module _ (d : ℕ) (l : d < phase_count t) (course : Course t d) where
    -- The next phase's steps.
    pub phase_trail : Led t (delta_after t d) (after t d) (phase t (delta_after t d) (after t d)) (enough t)
    phase_trail = phase_led t ok (delta_after t d) (after t d) (course_facts d course) (delta_positive d l) course.fits

    -- One more phase.
    phase_course : Course t (suc d)
    unfolding after
    phase_course =
        let trail : Trail t (delta_after t d) (after t d) (phase t (delta_after t d) (after t d)) phase_trail.size = phase_trail.trail in
        let here : Run = phase t (delta_after t d) (after t d) in
        record {
          saturated = course.saturated + trail.saturated;
          unsaturated = course.unsaturated + trail.unsaturated;
          relabelled = course.relabelled + trail.relabelled;
          phases =
              subst
              (λ (x : ℕ).
              Phases (network_of t) (scale t) (functions_of (start t)) x (functions_of here.state) (suc d)
              (course.saturated + trail.saturated) (course.unsaturated + trail.unsaturated) (course.relabelled + trail.relabelled))
              (delta_half d l)
              (subst
              (λ (done : ℕ).
              Phases (network_of t) (scale t) (functions_of (start t)) (delta_after t d / 2) (functions_of here.state) done
              (course.saturated + trail.saturated) (course.unsaturated + trail.unsaturated) (course.relabelled + trail.relabelled))
              (omega arith)
              (next_phase course.phases (delta_positive d l) trail.steps
              (choose_ended t (delta_after t d) here.state
              (phase_ended t ok (delta_after t d) (after t d) (course_facts d course) (delta_positive d l) course.fits))));
          counted = omega (arith, course.counted, trail.counted);
          fits = trail.fits;
        }

  -- The first d phases.
  pub course : (d : ℕ) → d ≤ phase_count t → Course t d
  unfolding after
  course zero l =
      record {
        saturated = 0;
        unsaturated = 0;
        relabelled = 0;
        phases =
            let all : phase_count t ≡ phase_count t - 0 = omega arith in
            subst (λ (j : ℕ). Phases (network_of t) (scale t) (functions_of (start t)) (scale_of j) (functions_of (start t)) 0 0 0 0) all no_phases;
        counted = omega arith;
        fits = start_fits t;
      }
  course (suc d) l = phase_course d l (course d (omega arith))

  -- All K phases.
  pub run_course : Course t (phase_count t)
  run_course = course (phase_count t) (omega arith)

  -- At their end the facts hold at Delta = 0: there is no excess.
  pub end_facts : FactsOf t 0 (after t (phase_count t)).state
  unfolding scale_of
  end_facts =
      let none : phase_count t - phase_count t ≡ 0 = omega arith in
      subst (λ (j : ℕ). FactsOf t (scale_of j) (after t (phase_count t)).state) none (course_facts (phase_count t) run_course)

  -- In each phase there are at most 4n^2 nonsaturating pushes.
  phase_bound : (d : ℕ) → d < phase_count t → (after t (suc d)).counts.nonsaturating ≤ (after t d).counts.nonsaturating + 4 * (t.nodes * t.nodes)
  unfolding after
  phase_bound d l =
      let before : Course t d = course d (omega arith) in
      let trail : Trail t (delta_after t d) (after t d) (phase t (delta_after t d) (after t d)) _ = (phase_trail d l before).trail in
      omega (
        arith,
        trail.counted.nonsaturating_is,
        nonsaturating_in_phase (network_of t) (accepted_sound t ok) (no_minimums t) (delta_after t d) (functions_of (after t d).state)
            (course_facts d before) trail.steps (delta_positive d l),
      )

  -- Each phase ends with no node to choose.
  phase_end : (d : ℕ) → d < phase_count t → choose t (delta_after t d) (after t (suc d)).state ≡ None
  unfolding after
  phase_end d l =
      let before : Course t d = course d (omega arith) in
      phase_ended t ok (delta_after t d) (after t d) (course_facts d before) (delta_positive d l) before.fits

  -- A chosen node that is stuck finds its new label at a residual arc.
  stuck_above : (d j i : ℕ) → d < phase_count t → choose t (delta_after t d) (during t d j) ≡ Some i
      → first_eligible t (during t d j) i (list t i) ≡ None → OneAbove t (during t d j) i
  stuck_above d j i l e missing =
      let before : Course t d = course d (omega arith) in
      let facts = course_facts d before in
      let led = phase_for_led t ok (delta_after t d) (after t d) facts j (after t d) 0 (no_trail t (delta_after t d) (after t d) before.fits) in
      let new = new_label_lem t ok (delta_after t d) (after t d) facts (phase_for t (delta_after t d) j (after t d)) led.size led.trail i e missing in
      record {
        place = new.arc.place;
        way = new.arc.way;
        below = new.arc.below;
        from = new.arc.from;
        left = new.arc.left;
        label = new.reached;
        least = new.least;
      }

  -- Demand 3 of the run's scale, phases and counts.
  pub run_bounded : Bounded t (scale t) (phase_count t) (run t).counts
  unfolding run
  run_bounded =
      let sound = accepted_sound t ok in
      let whole = run_course in
      record {
        scaled = start_scaled t ok;
        phases = phases_bound t ok;
        saturating =
            omega (
              arith,
              whole.counted.saturating_is,
              saturating_in_all (network_of t) sound (no_minimums t) (scale t) (functions_of (start t)) (begin_facts t ok) whole.phases no_steps_lem,
            );
        nonsaturating =
            omega (
              arith,
              whole.counted.nonsaturating_is,
              (phases_hold (network_of t) sound (no_minimums t) (scale t) (functions_of (start t)) (begin_facts t ok) whole.phases).1.by_phase,
            );
        relabels =
            omega (
              arith,
              whole.counted.relabels_is,
              relabels_in_all (network_of t) sound (no_minimums t) (scale t) (functions_of (start t)) (begin_facts t ok) whole.phases no_steps_lem,
            );
        in_phase = phase_bound;
        ended = phase_end;
        relabelled = stuck_above;
      }
