-- `phase` meets its contract. The loop's invariant: the phase stands at a moment (`Going`), the lists are as they were, how far they were looked
-- through is right, the next choice is made, and the tournament is that of the other nodes' keys.
use Rattle.std.specs.Prelude.{Some}
use Prim.Native.Nat.{ℕ, ◌<◌}
use Rattle.table.specs.Table.{Table, table_in}
use Rattle.run.specs.Choice.{choose}
use Rattle.run.specs.Phase.{Run}
use Rattle.tournament.specs.Tournament.{LowLabels}
use Rattle.arcs.specs.Work.{labels_part, looked_part, InWork}
use Rattle.arcs.proofs.Work.{length_labels, lists_on, lists_idle, in_work_kept}
use Rattle.work.specs.Held.{run_in, Ready}
use Rattle.work.proofs.Stepping.{choice_is}
use Rattle.work.proofs.Advancing.{low_labels}
use Rattle.work.proofs.Phasing.{amid_in_phase, amid_valid, amid_few, amid_node, amid_end}
use Rattle.work.proofs.Going.{Going, going_first, going_small, going_step, going_less}
use mathlib.Core.List.{List}
use native.Mathlib.Omega.{arith}
use mathlib.Core.Path.{◌≡◌, sym, ◌∙◌, subst}
use Rattle.work.proofs.phase.Goals as goal

pub first_choice-next-requires : goal.first_choice-next-requires
first_choice-next-requires c =
    let table_here : Table = table_in c.args.table.now in
    let run_of : Run = run_in c.args.table.now.nodes c.args.flow.now c.args.work.now c.args.tally.counts in
    let begins : Going table_here c.args.q c.args.delta run_of run_of c.args.tally.sink = going_first table_here c.requires.fact.0 c.args.q c.args.delta run_of c.args.tally.sink c.requires.fact_2.0 c.requires.fact_2.1 in
    let low_first : LowLabels (labels_part c.args.table.now.nodes c.args.work.now) = low_labels table_here run_of.state c.requires.fact.0.rows.ends.few_nodes (length_labels c.args.table.now.nodes c.args.work.now (omega (arith, c.requires.fact.1.room))) (amid_valid table_here c.requires.fact.0 c.args.delta run_of run_of begins.amid) in
    (c.requires.fact.0.rows.ends.few_nodes, omega (arith, c.requires.fact.1.room), low_first, c.requires.fact_3.1)

pub loop-taken-init : goal.loop-taken-init
loop-taken-init c =
    let table_here : Table = table_in c.args.table.now in
    let run_of : Run = run_in c.args.table.now.nodes c.args.flow.now c.args.work.now c.args.tally.counts in
    let begins : Going table_here c.args.q c.args.delta run_of run_of c.args.tally.sink = going_first table_here c.requires.fact.0 c.args.q c.args.delta run_of c.args.tally.sink c.requires.fact_2.0 c.requires.fact_2.1 in (
      begins,
      lists_idle c.args.table.now.nodes c.args.work.now,
      record { lists = c.requires.fact_3.0; chose = c.first_choice-next.ensures },
    )

pub turn-turned-requires : goal.turn-turned-requires
turn-turned-requires c =
    let table_here : Table = table_in c.args.table.now in
    let run_of : Run = run_in c.args.table.now.nodes c.args.flow.now c.args.work.now c.args.tally.counts in
    let table : Table = table_here in
    let first : Run = run_of in
    let here : Run = run_in c.args.table.now.nodes c.loop-taken.flow c.loop-taken.work c.loop-taken.taken.counts in
    let in_work : InWork table c.loop-taken.work = in_work_kept table c.args.work.now c.loop-taken.work c.loop-taken.invariant.1 (sym c.loop-taken.auto.work) c.requires.fact.1 in
    let answer : c.loop-taken.next ≡ choose table c.args.delta here.state = choice_is table c.args.delta here.state c.loop-taken.next c.loop-taken.tree c.loop-taken.invariant.2.chose in
    let node : ℕ = c.in-Some.i in
    let is_node : c.loop-taken.next ≡ Some node = c.in-Some.is in
    let chosen : choose table c.args.delta here.state ≡ Some node = sym answer ∙ is_node in
    let looked : List ℕ = looked_part c.args.table.now.nodes c.loop-taken.work in
    let ready : Ready table c.args.delta here.state looked c.loop-taken.tree (Some node) = subst (Ready table c.args.delta here.state looked c.loop-taken.tree) is_node c.loop-taken.invariant.2 in
    let amid = c.loop-taken.invariant.0.amid in record {
      arc_rows = (c.requires.fact.0.rows, in_work, c.requires.fact.2);
      fact = (
        amid_in_phase table c.requires.fact.0 c.args.delta first here amid,
        amid_node table c.requires.fact.0 c.args.delta first here amid node chosen,
        omega (arith, amid_few table c.requires.fact.0 c.args.delta first here amid),
        going_small table c.requires.fact.0 c.args.q c.args.delta first here c.loop-taken.taken.sink c.loop-taken.invariant.0,
      );
      fact_2 = (amid_valid table c.requires.fact.0 c.args.delta first here amid, ready);
    }

pub loop-taken-smaller : goal.loop-taken-smaller
loop-taken-smaller c =
    let table_here : Table = table_in c.args.table.now in
    let run_of : Run = run_in c.args.table.now.nodes c.args.flow.now c.args.work.now c.args.tally.counts in
    let table : Table = table_here in
    let first : Run = run_of in
    let here : Run = run_in c.args.table.now.nodes c.loop-taken.flow c.loop-taken.work c.loop-taken.taken.counts in
    let answer : c.loop-taken.next ≡ choose table c.args.delta here.state = choice_is table c.args.delta here.state c.loop-taken.next c.loop-taken.tree c.loop-taken.invariant.2.chose in
    let node : ℕ = c.in-Some.i in
    let is_node : c.loop-taken.next ≡ Some node = c.in-Some.is in
    let chosen : choose table c.args.delta here.state ≡ Some node = sym answer ∙ is_node in
    going_less table c.requires.fact.0 c.args.q c.args.delta first here c.loop-taken.taken.sink c.loop-taken.invariant.0 node chosen _ c.turn-turned.ensures.counts_value

pub loop-taken-preserved : goal.loop-taken-preserved
loop-taken-preserved c =
    let table_here : Table = table_in c.args.table.now in
    let run_of : Run = run_in c.args.table.now.nodes c.args.flow.now c.args.work.now c.args.tally.counts in
    let table : Table = table_here in
    let first : Run = run_of in
    let here : Run = run_in c.args.table.now.nodes c.loop-taken.flow c.loop-taken.work c.loop-taken.taken.counts in
    let answer : c.loop-taken.next ≡ choose table c.args.delta here.state = choice_is table c.args.delta here.state c.loop-taken.next c.loop-taken.tree c.loop-taken.invariant.2.chose in
    let node : ℕ = c.in-Some.i in
    let is_node : c.loop-taken.next ≡ Some node = c.in-Some.is in
    let chosen : choose table c.args.delta here.state ≡ Some node = sym answer ∙ is_node in
    let below : c.loop-taken.taken.sink < c.args.q = c.loop-taken-test.true in
    let inv = c.loop-taken.invariant in (
      going_step table c.requires.fact.0 c.args.q c.args.delta first here c.loop-taken.taken.sink inv.0 below
          node chosen _ c.turn-turned.result.tally.sink c.turn-turned.ensures.counts_value c.turn-turned.ensures.sink_value,
      lists_on inv.1 c.turn-turned.ensures.same_lists,
      c.turn-turned.ensures.ready,
    )

pub returns-in_default-clause-counts_value : goal.returns-in_default-clause-counts_value
returns-in_default-clause-counts_value c _ =
    let table_here : Table = table_in c.args.table.now in
    let run_of : Run = run_in c.args.table.now.nodes c.args.flow.now c.args.work.now c.args.tally.counts in
    let table : Table = table_here in
    let first : Run = run_of in
    let here : Run = run_in c.args.table.now.nodes c.loop-taken.flow c.loop-taken.work c.loop-taken.taken.counts in
    let answer : c.loop-taken.next ≡ choose table c.args.delta here.state = choice_is table c.args.delta here.state c.loop-taken.next c.loop-taken.tree c.loop-taken.invariant.2.chose in
    amid_end table c.requires.fact.0 c.args.delta first here c.loop-taken.invariant.0.amid (sym answer ∙ c.in_default.is)
