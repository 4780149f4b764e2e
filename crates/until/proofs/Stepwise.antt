-- The run step by step is the run: where it stands after each phase, and at its end.
use Rattle.std.specs.Prelude.{Option, Some, None}
use Prim.Native.Nat.{ℕ, zero, suc, ◌+◌, ◌-◌, ◌≤◌, ◌<◌}
use mathlib.Core.Path.{◌≡◌, refl, ap, sym, subst, ◌∙◌}
use mathlib.Core.Bool.{Bool, true, false, cond}
use native.Mathlib.Omega.{arith}
use Rattle.rows.proofs.Sums.{by_equal}
use Rattle.table.specs.Table.{Table}
use Rattle.table.specs.Accepted.{Accepted}
use Rattle.arcs.specs.Residual.{list}
use Rattle.run.specs.Scale.{scale_of, phase_count}
use Rattle.run.specs.Choice.{choose}
use Rattle.run.specs.Push.{first_eligible, saturates}
use Rattle.run.specs.Phase.{Run, step_at, step, phase_for, phase, enough, delta_after, after, run}
use Rattle.run.specs.Rows.{steps}
use Rattle.run.proofs.Whole.{Course, course, course_facts, delta_positive}
use Rattle.run.proofs.Courses.{phase_ended}
use Rattle.until.specs.Stepwise.{Stage, stage, next, stage_after, after_steps}

-- A step is counted once.
pub step_counted : (t : Table) (delta : ℕ) (r : Run) (i : ℕ) → steps (step t delta r i).counts ≡ suc (steps r.counts)
unfolding step step_at
step_counted t delta r i = go (first_eligible t r.state i (list t i))
  where
    one : (full : Bool) → ◌≡◌ {A = ℕ} (cond full 1 0 + cond full 0 1) 1
    one true = refl
    one false = refl

    go : (f : Option ℕ) → steps (step_at t delta r i f).counts ≡ suc (steps r.counts)
    go (Some k) = omega (arith, one (saturates t delta r.state i k))
    go None = omega arith

module _ (t : Table) (left : ℕ) (r : Run) where
  -- One step more at the chosen node.
  next_node : (i : ℕ) → choose t (scale_of (suc left)) r.state ≡ Some i → next t (suc left) r ≡ stage (suc left) (step t (scale_of (suc left)) r i)
  unfolding next
  next_node i e = ap (λ c. elim c as (λ _. Stage) [ None ↦ next t left r | Some i ↦ stage (suc left) (step t (scale_of (suc left)) r i) ]) e

  -- Where a phase is over the next one goes on.
  next_nothing : choose t (scale_of (suc left)) r.state ≡ None → next t (suc left) r ≡ next t left r
  unfolding next
  next_nothing e = ap (λ c. elim c as (λ _. Stage) [ None ↦ next t left r | Some i ↦ stage (suc left) (step t (scale_of (suc left)) r i) ]) e

-- One step more is counted once at most.
next_counted : (t : Table) (left : ℕ) (r : Run) → steps (next t left r).now.counts ≤ suc (steps r.counts)
unfolding next
next_counted t zero r = omega arith
next_counted t (suc left) r = go (choose t (scale_of (suc left)) r.state) (next_counted t left r)
  where
    go : (c : Option ℕ) → steps (next t left r).now.counts ≤ suc (steps r.counts)
        → steps (elim c as (λ _. Stage) [ None ↦ next t left r | Some i ↦ stage (suc left) (step t (scale_of (suc left)) r i) ]).now.counts ≤ suc (steps r.counts)
    go None over = over
    go (Some i) over = omega (arith, step_counted t (scale_of (suc left)) r i)

-- So from step i to step j there are j - i more at most.
counted_between : (t : Table) (i j : ℕ) → i ≤ j → steps (after_steps t j).counts + i ≤ steps (after_steps t i).counts + j
unfolding stage_after
counted_between t i zero l = let e : i ≡ 0 = omega arith in omega (arith, ap (λ (x : ℕ). steps (after_steps t x).counts) e)
counted_between t i (suc j) l =
    by_equal i (suc j)
    (λ e. omega (arith, ap (λ (x : ℕ). steps (after_steps t x).counts) e))
    (λ ne. omega (arith, counted_between t i j (omega (arith, ne)), next_counted t (stage_after t j).left (stage_after t j).now))

-- The run stands at r, with `left` phases not over: r is the run after as many steps as it counts, and goes on from there.
pub record Stands (t : Table) (left : ℕ) (r : Run) : Type 0 where
  pub here : after_steps t (steps r.counts) ≡ r
  pub on : stage_after t (suc (steps r.counts)) ≡ next t left r

-- It stands at the start.
stands_first : (t : Table) → Stands t (phase_count t) (after t 0)
unfolding stage_after after
stands_first t = record { here = refl; on = refl }

module _ (t : Table) (left : ℕ) (r : Run) (stands : Stands t (suc left) r) where
  -- A step at the chosen node leads on,
  pub stands_step : (i : ℕ) → choose t (scale_of (suc left)) r.state ≡ Some i → Stands t (suc left) (step t (scale_of (suc left)) r i)
  unfolding stage_after
  stands_step i e =
      let now : Run = step t (scale_of (suc left)) r i in
      let reached : stage_after t (suc (steps r.counts)) ≡ stage (suc left) now = stands.on ∙ next_node t left r i e in
      let counted : steps now.counts ≡ suc (steps r.counts) = step_counted t (scale_of (suc left)) r i in
      record {
        here = ap (after_steps t) counted ∙ ap (λ (m : Stage). m.now) reached;
        on = ap (λ (j : ℕ). stage_after t (suc j)) counted ∙ ap (λ (m : Stage). next t m.left m.now) reached;
      }

  -- and having no node to choose ends the phase.
  pub stands_end : choose t (scale_of (suc left)) r.state ≡ None → Stands t left r
  stands_end e = record { here = stands.here; on = stands.on ∙ next_nothing t left r e }

-- After some steps of a phase.
stands_for : (t : Table) (left fuel : ℕ) (r : Run) → Stands t (suc left) r → Stands t (suc left) (phase_for t (scale_of (suc left)) fuel r)
unfolding phase_for
stands_for t left zero r stands = stands
stands_for t left (suc fuel) r stands =
    go (choose t (scale_of (suc left)) r.state) refl (λ i e. stands_for t left fuel (step t (scale_of (suc left)) r i) (stands_step t left r stands i e))
  where
    go : (c : Option ℕ) → choose t (scale_of (suc left)) r.state ≡ c
        → ((i : ℕ) → choose t (scale_of (suc left)) r.state ≡ Some i → Stands t (suc left) (phase_for t (scale_of (suc left)) fuel (step t (scale_of (suc left)) r i)))
        → Stands t (suc left) (elim c as (λ _. Run) [ None ↦ r | Some i ↦ phase_for t (scale_of (suc left)) fuel (step t (scale_of (suc left)) r i) ])
    go None e more = stands
    go (Some i) e more = more i e

module _ (t : Table) (ok : Accepted t) where
  -- After a phase.
  stands_phase : (d : ℕ) → d < phase_count t → Stands t (phase_count t - d) (after t d) → Stands t (phase_count t - suc d) (after t (suc d))
  unfolding after phase
  stands_phase d l stands =
      let left : phase_count t - d ≡ suc (phase_count t - suc d) = omega arith in
      let before : Course t d = course t ok d (omega arith) in
      let ended = phase_ended t ok (delta_after t d) (after t d) (course_facts t ok d before) (delta_positive t ok d l) before.fits in
      subst (λ (x : ℕ). Stands t (phase_count t - suc d) (phase_for t (scale_of x) (enough t) (after t d))) (sym left)
      (stands_end t (phase_count t - suc d) (phase_for t (scale_of (suc (phase_count t - suc d))) (enough t) (after t d))
      (stands_for t (phase_count t - suc d) (enough t) (after t d) (subst (λ (x : ℕ). Stands t x (after t d)) left stands))
      (subst (λ (x : ℕ). choose t (scale_of x) (phase_for t (scale_of x) (enough t) (after t d)).state ≡ None) left ended))

  -- After the first d phases the run stands there.
  pub stands_after : (d : ℕ) → d ≤ phase_count t → Stands t (phase_count t - d) (after t d)
  stands_after zero l = let all : phase_count t ≡ phase_count t - 0 = omega arith in subst (λ (x : ℕ). Stands t x (after t 0)) all (stands_first t)
  stands_after (suc d) l = stands_phase d (omega arith) (stands_after d (omega arith))

  -- The run's last stage.
  stands_run : Stands t 0 (run t)
  unfolding run
  stands_run =
      let none : phase_count t - phase_count t ≡ 0 = omega arith in
      subst (λ (x : ℕ). Stands t x (after t (phase_count t))) none (stands_after (phase_count t) (omega arith))

  -- The run is the run after as many steps as its counts add up to,
  pub run_after : run t ≡ after_steps t (steps (run t).counts)
  run_after = sym stands_run.here

  -- and then all phases are over,
  over_after : (j : ℕ) → steps (run t).counts < j → stage_after t j ≡ stage 0 (run t)
  unfolding stage_after next
  over_after zero l = absurd (omega arith)
  over_after (suc j) l =
      by_equal j (steps (run t).counts)
      (λ e. ap (λ (k : ℕ). stage_after t (suc k)) e ∙ stands_run.on)
      (λ ne. ap (λ (m : Stage). next t m.left m.now) (over_after j (omega (arith, ne))))

  -- so that it stays as it is.
  pub run_stays : (j : ℕ) → steps (run t).counts ≤ j → after_steps t j ≡ run t
  run_stays j l =
      by_equal j (steps (run t).counts)
      (λ e. ap (after_steps t) e ∙ stands_run.here)
      (λ ne. ap (λ (m : Stage). m.now) (over_after j (omega (arith, ne))))

  -- Each of the run's steps is counted.
  pub counted_after : (j : ℕ) → j ≤ steps (run t).counts → steps (after_steps t j).counts ≡ j
  unfolding stage_after
  counted_after j l =
      omega (
        arith,
        counted_between t 0 j (omega arith),
        counted_between t j (steps (run t).counts) l,
        ap (λ (r : Run). steps r.counts) run_after,
      )
