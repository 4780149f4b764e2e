-- `run_until` meets its contract: the start, nothing looked through yet, then the phases.
use Prim.Native.Nat.{ℕ}
use Rattle.table.specs.Table.{Table, table_in}
use Rattle.run.specs.Start.{State, start}
use Rattle.run.specs.Scale.{largest, phases_for, phase_count}
use Rattle.until.specs.Stopping.{into_sink}
use Rattle.looking.specs.Looked.{Looked}
use Rattle.looking.proofs.Keeping.{looked_none}
use Rattle.arcs.specs.Work.{looked_part, SameLists, InWork}
use Rattle.arcs.proofs.Work.{lists_kept, lists_on, in_work_kept}
use Rattle.work.specs.Held.{state_in}
use Rattle.work.proofs.Stepping.{same_state}
use Rattle.work.proofs.Going.{start_sums, ran_until}
use mathlib.Core.List.{List}
use mathlib.Core.Path.{◌≡◌, refl, ap, sym, ◌∙◌}
use borrow.Author.Rules.{rules}
use Rattle.work.proofs.run_until.Goals as goal

pub into_sink-sink-requires : goal.into_sink-sink-requires
into_sink-sink-requires c =
    let flow_is : c.begin.new.flow ≡ (start (table_in c.args.table.now)).flow = ap (λ (st : State). st.flow) c.begin.ensures.work_value in
    record {
      accepted = (c.requires.0, c.begin.auto.flow ∙ c.requires.2);
      sums = start_sums (table_in c.args.table.now) c.requires.0 c.begin.new.flow flow_is;
    }

pub fill_ends-requires : goal.fill_ends-requires
fill_ends-requires c =
    let table : Table = table_in c.args.table.now in
    let first : List ℕ = c.begin.new.work in
    let work : List ℕ = c.clear_looked.new.work in
    let lists : SameLists c.args.table.now.nodes c.args.work.now work = lists_on (lists_kept c.args.table.now.nodes c.args.work.now first c.begin.ensures.work_value_2) c.clear_looked.ensures.same_lists in
    let in_work : InWork table work = in_work_kept table c.args.work.now work lists (sym (c.clear_looked.auto.work ∙ c.begin.auto.work)) c.requires.1 in
    record { arc_rows = (c.requires.0.rows, in_work); ends_len = search rules }

pub phases-taken-requires : goal.phases-taken-requires
unfolding phase_count
phases-taken-requires c =
    let table : Table = table_in c.args.table.now in
    let flow : List ℕ = c.begin.new.flow in
    let first : List ℕ = c.begin.new.work in
    let work : List ℕ = c.clear_looked.new.work in
    let state_is : state_in c.args.table.now.nodes flow work ≡ start table = same_state refl c.clear_looked.ensures.work_value c.clear_looked.ensures.work_value_2 ∙ c.begin.ensures.work_value in
    let flow_is : flow ≡ (start table).flow = ap (λ (st : State). st.flow) c.begin.ensures.work_value in
    let looked : Looked table (state_in c.args.table.now.nodes flow work) (looked_part c.args.table.now.nodes work) = looked_none table (state_in c.args.table.now.nodes flow work) (looked_part c.args.table.now.nodes work) c.clear_looked.ensures.work_value_3 in
    let lists : SameLists c.args.table.now.nodes c.args.work.now work = lists_on (lists_kept c.args.table.now.nodes c.args.work.now first c.begin.ensures.work_value_2) c.clear_looked.ensures.same_lists in
    let in_work : InWork table work = in_work_kept table c.args.work.now work lists (sym (c.clear_looked.auto.work ∙ c.begin.auto.work)) c.requires.1 in
    let count_is : c.count_phases-count.result ≡ phase_count table = c.count_phases-count.ensures.0 ∙ ap (λ (st : State). phases_for (largest st.excess)) state_is in
    let sink_is = c.into_sink-sink.ensures ∙ ap (into_sink table) flow_is in record {
      fact = (c.requires.0, in_work, c.fill_ends.ensures);
      fact_2 = (state_is, count_is, sink_is);
      fact_3 = (looked, search rules);
    }

pub returns : goal.returns
unfolding phase_count
returns c =
    let table : Table = table_in c.args.table.now in
    let flow : List ℕ = c.begin.new.flow in
    let first : List ℕ = c.begin.new.work in
    let work : List ℕ = c.clear_looked.new.work in
    let state_is : state_in c.args.table.now.nodes flow work ≡ start table = same_state refl c.clear_looked.ensures.work_value c.clear_looked.ensures.work_value_2 ∙ c.begin.ensures.work_value in
    let lists : SameLists c.args.table.now.nodes c.args.work.now work = lists_on (lists_kept c.args.table.now.nodes c.args.work.now first c.begin.ensures.work_value_2) c.clear_looked.ensures.same_lists in
    let count_is : c.count_phases-count.result ≡ phase_count table = c.count_phases-count.ensures.0 ∙ ap (λ (st : State). phases_for (largest st.excess)) state_is in
    ran_until table c.args.q c.args.table.now.nodes c.args.work.now _ _ _ c.phases-taken.ensures.counts_value c.phases-taken.ensures.sink_value count_is c.scale-d.ensures (lists_on lists c.phases-taken.ensures.same_lists)
