-- Laws of the loops that stop as soon as the net flow into the sink reaches q: how a phase stands at each moment, and where the run stops.
use Rattle.std.specs.Prelude.{Some}
use Prim.Native.Nat.{ℕ, suc, ◌+◌, ◌-◌, ◌^◌, ◌≤◌, ◌<◌}
use native.Mathlib.Omega.{arith}
use mathlib.Core.Path.{◌≡◌, refl, ap, sym, subst, subst⁻¹, subst₂, ◌∙◌}
use mathlib.Core.List.{List}
use lib.Dec.{ltb}
use lib.ListN.{length}
use borrow.Author.Tests.{ltb-true, ltb-false}
use Rattle.rows.proofs.Sums.{by_test}
use Rattle.table.specs.Table.{Table}
use Rattle.table.specs.Accepted.{Accepted}
use Rattle.network.specs.Network.{inflow, outflow}
use Rattle.arcs.specs.Work.{SameLists}
use Rattle.run.specs.Start.{start}
use Rattle.run.specs.Scale.{scale_of, phase_count}
use Rattle.run.specs.Choice.{choose}
use Rattle.run.specs.Phase.{Run, step, after, run}
use Rattle.run.specs.Rows.{steps}
use Rattle.run.proofs.Networks.{FactsOf}
use Rattle.run.proofs.Moments.{moment_facts}
use Rattle.run.proofs.Answers.{run_value}
use Rattle.until.specs.Stepwise.{stage_after, after_steps}
use Rattle.until.specs.Stopping.{into_sink, steps_until, stopped}
use Rattle.until.specs.Gain.{gain}
use Rattle.until.proofs.Stepwise.{Stands, stands_after, stands_step, step_counted}
use Rattle.until.proofs.Growing.{sink_positive, sink_in, sink_out, step_into_sink, into_sink_bound}
use Rattle.until.proofs.Stopping.{until_on, stopped_whole, stopped_here, stopped_last}
use Rattle.start.specs.Sums.{sum_at}
use Rattle.work.specs.Held.{run_in, Between, Underway, RanUntil, Ran}
use Rattle.work.specs.declared.Stop.{Stop}
use Rattle.work.proofs.Phasing.{Amid, left, amid_first, amid_step, amid_less}

-- The run that is to stop at q, at the start.
pub underway_first : (t : Table) → Accepted t → (q sink : ℕ) (r : Run) → r ≡ after t 0 → sink ≡ into_sink t (start t).flow → Underway t q r sink
unfolding after steps_until
underway_first t ok q sink r e is =
    subst⁻¹ (λ (x : Run). Underway t q x sink) e (record { part_is = (stands_after t ok 0 (omega arith)).here; each = refl; sink_is = is })

-- Where q is reached, or else at the end, it has stopped.
pub underway_end : (t : Table) → Accepted t → (q sink : ℕ) (r : Run) → Underway t q r sink → (sink < q → r ≡ run t)
    → (r ≡ stopped t q) × (sink ≡ into_sink t (stopped t q).state.flow)
underway_end t ok q sink r under whole =
    let here : r ≡ stopped t q =
    by_test (ltb sink q)
    (λ e. stopped_last t q ok r (whole (ltb-true sink q e)) under.each)
    (λ e. stopped_here t q ok r under.part_is under.each (omega (arith, ltb-false sink q e, under.sink_is))) in
    (here, under.sink_is ∙ ap (λ (x : Run). into_sink t x.state.flow) here)

-- The phase at Delta that began at `first` stands at `now`, with `to_come` phases after it, and the run is to stop at q.
pub record Going (t : Table) (q delta : ℕ) (first now : Run) (sink : ℕ) : Type 0 where
  pub amid : Amid t delta first now
  pub to_come : ℕ
  pub delta_is : delta ≡ scale_of (suc to_come)
  pub stands : Stands t (suc to_come) now
  pub under : Underway t q now sink

module _ (t : Table) (ok : Accepted t) (q delta : ℕ) (first : Run) where
  -- A phase begins.
  pub going_first : (sink : ℕ) → Between t delta first → Underway t q first sink → Going t q delta first first sink
  going_first sink between under =
      let left : phase_count t - between.done ≡ suc (phase_count t - suc between.done) = omega (arith, between.more) in
      record {
        amid = amid_first t ok delta first between;
        to_come = phase_count t - suc between.done;
        delta_is = between.delta_is ∙ ap scale_of left;
        stands =
            subst (λ (x : ℕ). Stands t x first) left
            (subst⁻¹ (Stands t (phase_count t - between.done)) between.run_is (stands_after t ok between.done (omega (arith, between.more))));
        under = under;
      }

  module _ (now : Run) (sink : ℕ) (going : Going t q delta first now sink) where
    -- The facts hold,
    facts : FactsOf t delta now.state
    facts =
        let amid = going.amid in
        subst⁻¹ (λ (x : ℕ). FactsOf t x now.state) amid.between.delta_is
        (moment_facts t ok amid.between.done amid.between.more now amid.size amid.moment)

    -- so the net flow into the sink is far from 2^63.
    pub going_small : sink < 2 ^ 63
    going_small = omega (arith, going.under.sink_is, into_sink_bound t ok now.state facts)

    -- A step where q is not reached leads on.
    pub going_step : sink < q → (i : ℕ) → choose t delta now.state ≡ Some i → (then : Run) (more : ℕ) → then ≡ step t delta now i
        → more ≡ sink + gain t delta now.state i → Going t q delta first then more
    going_step below i chosen then more stepped is =
        let next : Stands t (suc going.to_come) (step t delta now i) =
        subst⁻¹ (λ (x : ℕ). Stands t (suc going.to_come) (step t x now i)) going.delta_is
        (stands_step t going.to_come now going.stands i (subst (λ (x : ℕ). choose t x now.state ≡ Some i) going.delta_is chosen)) in
        let counted : steps (step t delta now i).counts ≡ suc (steps now.counts) = step_counted t delta now i in
        let here : into_sink t (after_steps t (steps now.counts)).state.flow ≡ into_sink t now.state.flow =
        ap (λ (r : Run). into_sink t r.state.flow) going.under.part_is in
        let positive : sink_out t now ≤ sink_in t now =
        subst (λ (r : Run). sink_out t r ≤ sink_in t r) going.under.part_is (sink_positive t ok (steps now.counts)) in
        subst⁻¹ (λ (r : Run). Going t q delta first r more) stepped
        (record {
          amid = amid_step t ok delta first now going.amid i chosen;
          to_come = going.to_come;
          delta_is = going.delta_is;
          stands = next;
          under =
              record {
                part_is = next.here;
                each =
                    ap (steps_until t q) counted
                    ∙ until_on t q (steps now.counts) going.under.each (omega (arith, here, going.under.sink_is))
                    ∙ sym counted;
                sink_is =
                    omega (arith, going.under.sink_is, step_into_sink t ok delta now facts going.amid.moment.trail.fits i chosen positive);
              };
        })

    -- It leaves one less.
    pub going_less : (i : ℕ) → choose t delta now.state ≡ Some i → (then : Run) → then ≡ step t delta now i → left t first then < left t first now
    going_less i chosen then stepped =
        subst⁻¹ (λ (r : Run). left t first r < left t first now) stepped (amid_less t ok delta first now going.amid i chosen)

-- The sums of the net flow into the sink at the start: no more leaves it than enters.
pub start_sums : (t : Table) → Accepted t → (flow : List ℕ) → flow ≡ (start t).flow
    → sum_at t.tails flow t.sink (length t.tails) ≤ sum_at t.heads flow t.sink (length t.heads)
unfolding inflow outflow stage_after
start_sums t ok flow e =
    subst⁻¹ (λ (f : List ℕ). sum_at t.tails f t.sink (length t.tails) ≤ sum_at t.heads f t.sink (length t.heads)) e
    (subst₂ (λ (a b : ℕ). sum_at t.tails (start t).flow t.sink a ≤ sum_at t.heads (start t).flow t.sink b)
    ok.rows.capacities_long (ok.rows.capacities_long ∙ sym ok.rows.ends.heads_long) (sink_positive t ok 0))

-- What the run that is to stop at q leaves, from where it has stopped.
pub ran_until : (t : Table) (q n : ℕ) (work flow_left work_left : List ℕ) (stop : Stop) → run_in n flow_left work_left stop.counts ≡ stopped t q
    → stop.sink ≡ into_sink t (stopped t q).state.flow → stop.phases ≡ phase_count t → stop.scale ≡ scale_of stop.phases
    → SameLists t.nodes work work_left → RanUntil t q work stop flow_left work_left
ran_until t q n work flow_left work_left stop is sink_is phases_are scale_is lists =
    record {
      flow_is = ap (λ (r : Run). r.state.flow) is;
      counts_are = ap (λ (r : Run). r.counts) is;
      sink_is = sink_is;
      phases_are = phases_are;
      scale_is = scale_is ∙ ap scale_of phases_are;
      lists_stay = lists;
    }

-- The run that is to stop at more than any value goes to the end.
pub ran_whole : (t : Table) → Accepted t → (work : List ℕ) (stop : Stop) (flow_left work_left : List ℕ) → RanUntil t 4096000001 work stop flow_left work_left
    → Ran t work (record { counts = stop.counts; phases = stop.phases; scale = stop.scale }) flow_left work_left
ran_whole t ok work stop flow_left work_left ran =
    let whole : stopped t 4096000001 ≡ run t = stopped_whole t 4096000001 ok (omega (arith, run_value t ok)) in
    record {
      flow_is = ran.flow_is ∙ ap (λ (r : Run). r.state.flow) whole;
      counts_are = ran.counts_are ∙ ap (λ (r : Run). r.counts) whole;
      phases_are = ran.phases_are;
      scale_is = ran.scale_is;
      lists_stay = ran.lists_stay;
    }
