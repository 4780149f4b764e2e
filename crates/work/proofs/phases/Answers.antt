-- `phases` meets its contract. The loop's invariant: the run stands after as many phases as were counted, or has reached q; the lists are as they were, and how far they were looked through is right.
use Rattle.run.specs.declared.Counts.{Counts}
use Prim.Native.Nat.{ℕ, ◌<◌}
use Rattle.table.specs.Table.{Table, table_in}
use Rattle.run.specs.Scale.{phase_count}
use Rattle.run.specs.Phase.{Run, no_steps, run}
use Rattle.run.proofs.Whole.{phases_bound}
use Rattle.until.specs.Stopping.{into_sink, stopped}
use Rattle.arcs.specs.Work.{SameLists}
use Rattle.arcs.proofs.Work.{lists_on, lists_idle}
use Rattle.work.specs.Held.{run_in}
use Rattle.work.proofs.Phasing.{first_delta, first_run, next_delta, next_run, whole_run}
use Rattle.work.proofs.Going.{underway_first, underway_end}
use native.Mathlib.Omega.{arith}
use mathlib.Core.Path.{◌≡◌, ap, ◌∙◌}
use Rattle.work.proofs.phases.Goals as goal

-- Counts of 0 are those of no steps.
none_taken : (counts : Counts) → counts.saturating ≡ 0 → counts.nonsaturating ≡ 0 → counts.relabels ≡ 0 → counts ≡ no_steps
none_taken counts p q r =
    let these : ℕ → ℕ → ℕ → Counts = λ a b c. record { saturating = a; nonsaturating = b; relabels = c } in
    ap (λ (a : ℕ). these a counts.nonsaturating counts.relabels) p ∙ ap (λ (b : ℕ). these 0 b counts.relabels) q ∙ ap (these 0 0) r

pub scale-delta-requires : goal.scale-delta-requires
scale-delta-requires c =
    omega (arith, c.requires.fact_2.1, phases_bound _ c.requires.fact.0)

pub loop-init : goal.loop-init
loop-init c =
    let given = c.args in
    let T = table_in given.table.now in
    let none : c.default.result ≡ no_steps = none_taken c.default.result c.default.ensures.0 c.default.ensures.1.0 c.default.ensures.1.1 in
    let first = ap (run_in given.table.now.nodes given.flow.now given.work.now) none ∙ first_run T c.requires.fact_2.0 in (
      c.scale-delta.ensures ∙ first_delta T given.count c.requires.fact_2.1,
      underway_first T c.requires.fact.0 given.q given.sink _ first c.requires.fact_2.2,
      λ _. first,
      lists_idle given.table.now.nodes given.work.now,
      c.requires.fact_3.0,
    )

pub loop-preserved : goal.loop-preserved
loop-preserved c =
    let table : Table = table_in c.args.table.now in
    let here : Run = run_in c.args.table.now.nodes c.loop.flow c.loop.work c.loop.tally.counts in
    let inv = c.loop.invariant in
    let more = c.loop-test.true in
    let here_is = inv.2 (omega (arith, c.if-q-tally.false)) in (
      next_delta table c.requires.fact.0 c.loop.counter _ (omega (arith, more, c.requires.fact_2.1)) inv.0,
      c.phase-tally.ensures.underway,
      λ below. next_run table c.loop.counter c.loop.delta here _ inv.0 here_is (c.phase-tally.ensures.counts_value below),
      lists_on inv.3 c.phase-tally.ensures.same_lists,
      c.phase-tally.ensures.looked,
    )

pub returns-after-loop : goal.returns-after-loop
returns-after-loop c =
    let table : Table = table_in c.args.table.now in
    let here : Run = run_in c.args.table.now.nodes c.loop.flow c.loop.work c.loop.tally.counts in
    let ended : (c.loop.tally.sink < c.args.q → here ≡ run table) → (here ≡ stopped table c.args.q) × ((c.loop.tally.sink ≡ into_sink table (stopped table c.args.q).state.flow) × SameLists c.args.table.now.nodes c.args.work.now c.loop.work) = λ whole. let (run_is, sink_is) = underway_end table c.requires.fact.0 c.args.q c.loop.tally.sink here c.loop.invariant.1 whole in (run_is, (sink_is, c.loop.invariant.3)) in
    let inv = c.loop.invariant in
    let all : c.loop.counter ≡ phase_count table = omega (arith, c.loop.auto, c.loop-test.false, c.requires.fact_2.1) in
    let the_facts = ended (λ below. inv.2 below ∙ whole_run table c.loop.counter all) in record {
      counts_value = the_facts.0;
      sink_value = the_facts.1.0;
      same_lists = the_facts.1.1;
    }

pub returns-then-q-tally : goal.returns-then-q-tally
returns-then-q-tally c =
    let table : Table = table_in c.args.table.now in
    let here : Run = run_in c.args.table.now.nodes c.loop.flow c.loop.work c.loop.tally.counts in
    let ended : (c.loop.tally.sink < c.args.q → here ≡ run table) → (here ≡ stopped table c.args.q) × ((c.loop.tally.sink ≡ into_sink table (stopped table c.args.q).state.flow) × SameLists c.args.table.now.nodes c.args.work.now c.loop.work) = λ whole. let (run_is, sink_is) = underway_end table c.requires.fact.0 c.args.q c.loop.tally.sink here c.loop.invariant.1 whole in (run_is, (sink_is, c.loop.invariant.3)) in
    let the_facts = ended (λ below. absurd (omega (arith, c.if-q-tally.true, below))) in record {
      counts_value = the_facts.0;
      sink_value = the_facts.1.0;
      same_lists = the_facts.1.1;
    }
