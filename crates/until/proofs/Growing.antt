-- From step to step the run grows: the facts hold at each moment, no count falls, and the net flow into the sink never falls.
use Rattle.std.specs.Prelude.{Option, Some, None}
use Prim.Native.Nat.{ℕ, zero, suc, ◌+◌, ◌-◌, ◌≤◌}
use mathlib.Core.Path.{◌≡◌, refl, ap, sym, subst, ◌∙◌}
use native.Mathlib.Omega.{arith}
use borrow.Author.Tests.{eqb-true, ne_eqb}
use lib.Dec.{eqb}
use Rattle.rows.specs.Row.{at_place}
use Rattle.rows.specs.Sum.{only}
use Rattle.rows.proofs.Sums.{by_test, by_equal, only_true, only_false, only_le, sum_zero, sum_mono}
use Rattle.network.specs.Network.{inflow, outflow}
use Rattle.network.proofs.Steps.{Chosen, Eligible}
use Rattle.network.proofs.Steps.{State as Functions, push as pushed, amount as moves}
use Rattle.network.proofs.Facts.{phase_end_facts}
use Rattle.table.specs.Table.{Table, arcs, tail, head, capacity, network_of}
use Rattle.table.specs.Accepted.{Accepted}
use Rattle.arcs.specs.Residual.{way, far, list}
use Rattle.run.specs.Start.{State, start_flow, start}
use Rattle.run.specs.Scale.{scale_of}
use Rattle.run.specs.Choice.{choose}
use Rattle.run.specs.Push.{first_eligible, amount, push}
use Rattle.run.specs.Relabel.{relabel}
use Rattle.run.specs.Phase.{Run, step_at, step, run, value}
use Rattle.run.specs.Rows.{Fits}
use Rattle.run.proofs.Networks.{functions_of, FactsOf, accepted_sound, no_minimums}
use Rattle.arcs.proofs.Members.{member_start}
use Rattle.run.proofs.Arcs.{found_place, eligible_arc}
use Rattle.run.proofs.Pushes.{amount_same, push_same}
use Rattle.run.proofs.Choices.{choose_chosen, choose_ended}
use Rattle.run.proofs.Trails.{Trail, no_trail, step_trail, trail_facts}
use Rattle.run.proofs.Beginning.{start_fits, start_flow_at_lem}
use Rattle.run.proofs.Doubling.{halved}
use Rattle.run.proofs.Whole.{capacity_in_all, begin_facts}
use Rattle.run.proofs.Answers.{run_best}
use Rattle.joined.proofs.Balance.{ends_balance}
use Rattle.until.specs.Stepwise.{Stage, stage, next, stage_after, after_steps}
use Rattle.until.specs.Stopping.{into_sink}
use Rattle.until.specs.Gain.{gain_along, gain_at, gain}
use Rattle.until.proofs.Sink.{SinkGains, push_sink, steps_sink}

-- What enters the sink,
abbrev pub sink_in : Table → Run → ℕ
sink_in t r = inflow (network_of t) (at_place r.state.flow) t.sink

-- and what leaves it.
abbrev pub sink_out : Table → Run → ℕ
sink_out t r = outflow (network_of t) (at_place r.state.flow) t.sink

-- From one run to another no count falls, nor does the net flow into the sink.
pub record Grows (t : Table) (from to : Run) : Type 0 where
  pub saturating : from.counts.saturating ≤ to.counts.saturating
  pub nonsaturating : from.counts.nonsaturating ≤ to.counts.nonsaturating
  pub relabels : from.counts.relabels ≤ to.counts.relabels
  pub sink : sink_in t from + sink_out t to ≤ sink_in t to + sink_out t from

-- A run grows to itself.
grows_same : (t : Table) (r : Run) → Grows t r r
grows_same t r = omega arith

-- What grows and grows on grows.
grows_on : (t : Table) (a b c : Run) → Grows t a b → Grows t b c → Grows t a c
grows_on t a b c p q = omega arith

-- A stage in order: the facts hold there at its Delta, and its rows have the table's lengths.
pub record Ordered (t : Table) (m : Stage) : Type 0 where
  pub facts : FactsOf t (scale_of m.left) m.now.state
  pub fits : Fits t m.now.state

module _ (t : Table) (ok : Accepted t) where
  -- One step more from r is in order and grows.
  next_grows : (left : ℕ) (r : Run) → Ordered t (stage left r) → Ordered t (next t left r) × Grows t r (next t left r).now
  unfolding next
  next_grows zero r good = (good, grows_same t r)
  next_grows (suc left) r good = go (choose t (scale_of (suc left)) r.state) refl (λ e. next_grows left r (lower e))
    where
      lower : choose t (scale_of (suc left)) r.state ≡ None → Ordered t (stage left r)
      lower e =
          let one : suc left - 1 ≡ left = omega arith in
          record {
            facts =
                subst (λ (x : ℕ). FactsOf t x r.state) (halved (suc left) (omega arith) ∙ ap scale_of one)
                (phase_end_facts (network_of t) (accepted_sound t ok) (scale_of (suc left)) (functions_of r.state) good.facts
                (choose_ended t (scale_of (suc left)) r.state e));
            fits = good.fits;
          }

      go : (c : Option ℕ) → choose t (scale_of (suc left)) r.state ≡ c
          → (choose t (scale_of (suc left)) r.state ≡ None → Ordered t (next t left r) × Grows t r (next t left r).now)
          → Ordered t (elim c as (λ _. Stage) [ None ↦ next t left r | Some i ↦ stage (suc left) (step t (scale_of (suc left)) r i) ])
          × Grows t r (elim c as (λ _. Stage) [ None ↦ next t left r | Some i ↦ stage (suc left) (step t (scale_of (suc left)) r i) ]).now
      go None e over = over e
      go (Some i) e over =
          let none = no_trail t (scale_of (suc left)) r good.fits in
          let trail : Trail t (scale_of (suc left)) r (step t (scale_of (suc left)) r i) (0 + 1) = step_trail t ok (scale_of (suc left)) r good.facts r 0 none i e in (
            record {
              facts = trail_facts t ok (scale_of (suc left)) r good.facts (step t (scale_of (suc left)) r i) (0 + 1) trail;
              fits = trail.fits;
            },
            record {
              saturating = omega (arith, trail.counted);
              nonsaturating = omega (arith, trail.counted);
              relabels = omega (arith, trail.counted);
              sink = steps_sink (network_of t) (accepted_sound t ok) (no_minimums t) (scale_of (suc left)) (functions_of r.state) good.facts trail.steps;
            },
          )

  -- Every stage is in order.
  pub stage_ordered : (j : ℕ) → Ordered t (stage_after t j)
  unfolding stage_after
  stage_ordered zero = record { facts = begin_facts t ok; fits = start_fits t }
  stage_ordered (suc j) = (next_grows (stage_after t j).left (stage_after t j).now (stage_ordered j)).0

  -- Each step grows,
  step_grows : (j : ℕ) → Grows t (after_steps t j) (after_steps t (suc j))
  unfolding stage_after
  step_grows j = (next_grows (stage_after t j).left (stage_after t j).now (stage_ordered j)).1

  -- and so do more of them.
  pub steps_grow : (i j : ℕ) → i ≤ j → Grows t (after_steps t i) (after_steps t j)
  steps_grow i zero l = let e : i ≡ 0 = omega arith in subst (λ (x : ℕ). Grows t (after_steps t x) (after_steps t 0)) (sym e) (grows_same t (after_steps t 0))
  steps_grow i (suc j) l =
      by_equal i (suc j)
      (λ e. subst (λ (x : ℕ). Grows t (after_steps t x) (after_steps t (suc j))) (sym e) (grows_same t (after_steps t (suc j))))
      (λ ne. grows_on t (after_steps t i) (after_steps t j) (after_steps t (suc j)) (steps_grow i j (omega (arith, ne))) (step_grows j))

  -- At the start nothing leaves the sink,
  start_out : outflow (network_of t) (at_place (start t).flow) t.sink ≡ 0
  unfolding outflow start
  start_out =
      sum_zero (arcs t) _
      (λ k l.
      by_test (eqb (tail t k) t.sink)
      (λ e.
      only_true (eqb (tail t k) t.sink) (at_place (start_flow t) k) e
      ∙ start_flow_at_lem t k l
      ∙ only_false (eqb (tail t k) t.source) (capacity t k)
      (ne_eqb (tail t k) t.source (λ p. ok.apart (sym p ∙ eqb-true (tail t k) t.sink e))))
      (λ e. only_false (eqb (tail t k) t.sink) (at_place (start_flow t) k) e))

  -- so at no stage does more leave it than enters.
  pub sink_positive : (j : ℕ) → sink_out t (after_steps t j) ≤ sink_in t (after_steps t j)
  unfolding stage_after
  sink_positive j = omega (arith, (steps_grow 0 j (omega arith)).sink, start_out)

  -- The net flow into the sink never falls.
  pub sink_never_falls : (i j : ℕ) → i ≤ j → into_sink t (after_steps t i).state.flow ≤ into_sink t (after_steps t j).state.flow
  unfolding into_sink
  sink_never_falls i j l = omega (arith, (steps_grow i j l).sink, sink_positive i, sink_positive j)

  -- At the end it is the value.
  pub end_value : into_sink t (run t).state.flow ≡ value t (run t).state.flow
  unfolding into_sink value
  end_value =
      let best = run_best t ok in
      omega (
        arith,
        ends_balance (network_of t) (accepted_sound t ok) (at_place (run t).state.flow) best.answer.valid.kept,
        best.net,
      )

  module _ (delta : ℕ) (r : Run) (facts : FactsOf t delta r.state) (fits : Fits t r.state) (i : ℕ) (e : choose t delta r.state ≡ Some i) where
    -- The node is the theory's.
    chosen : Chosen (network_of t) delta (functions_of r.state) i
    chosen = choose_chosen t delta r.state i e

    -- A push brings the sink what the definitions say,
    push_gains : (k : ℕ) → first_eligible t r.state i (list t i) ≡ Some k
        → SinkGains (network_of t) (at_place r.state.flow) (at_place (push t delta r.state i k).flow) (gain_along t delta r.state i k)
    push_gains k found =
        let sound = accepted_sound t ok in
        let (member, fit) = found_place t r.state i (list t i) k found in
        let arc : Eligible (network_of t) (functions_of r.state) k (way t i k) = eligible_arc t sound r.state i k member fit in
        let near = subst (Chosen (network_of t) delta (functions_of r.state)) (sym (member_start t i member)) chosen in
        let same : amount t delta r.state i k ≡ moves (network_of t) delta (functions_of r.state) k (way t i k) =
        amount_same t sound r.state (fits) i chosen.node k member delta in
        let after : functions_of (push t delta r.state i k) ≡ pushed (network_of t) k (way t i k) (amount t delta r.state i k) (functions_of r.state) =
        push_same t sound r.state fits i chosen.node k member delta in
        subst (λ (S : Functions). SinkGains (network_of t) (at_place r.state.flow) S.flow (gain_along t delta r.state i k)) (sym after)
        (subst
        (λ (d : ℕ).
        SinkGains (network_of t) (at_place r.state.flow) (pushed (network_of t) k (way t i k) d (functions_of r.state)).flow
        (only (eqb (far t i k) t.sink) d))
        (sym same)
        (push_sink (network_of t) sound (no_minimums t) delta (functions_of r.state) facts k (way t i k) near arc))

    -- and so does a step.
    step_gains : SinkGains (network_of t) (at_place r.state.flow) (at_place (step t delta r i).state.flow) (gain t delta r.state i)
    unfolding step step_at gain relabel
    step_gains = go (first_eligible t r.state i (list t i)) refl
      where
        go : (f : Option ℕ) → first_eligible t r.state i (list t i) ≡ f
            → SinkGains (network_of t) (at_place r.state.flow) (at_place (step_at t delta r i f).state.flow) (gain_at t delta r.state i f)
        go (Some k) found = push_gains k found
        go None found = omega arith

    -- The net flow into the sink after the step.
    pub step_into_sink : sink_out t r ≤ sink_in t r → into_sink t (step t delta r i).state.flow ≡ into_sink t r.state.flow + gain t delta r.state i
    unfolding into_sink
    step_into_sink positive = omega (arith, step_gains)

  -- It is at most 4,096,000,000.
  pub into_sink_bound : (st : State) {delta : ℕ} → FactsOf t delta st → into_sink t st.flow ≤ 4096000000
  unfolding into_sink inflow
  into_sink_bound st facts =
      omega (
        arith,
        sum_mono (arcs t) (λ k. only (eqb (head t k) t.sink) (at_place st.flow k)) (capacity t)
            (λ k l. omega (arith, only_le (eqb (head t k) t.sink) (at_place st.flow k), facts.pre.high k l)),
        capacity_in_all t ok,
      )
