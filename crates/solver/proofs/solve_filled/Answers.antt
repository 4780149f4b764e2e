-- `solve_filled` meets its contract: the run's flow, its value, and its side by the lists that still stand.
use Prim.Native.Nat.{ℕ}
use mathlib.Core.Path.{◌≡◌, sym, ◌∙◌}
use mathlib.Core.List.{List}
use native.Mathlib.Omega.{arith}
use lib.ListN.{length}
use Rattle.table.specs.Table.{Table, arcs, table_in}
use Rattle.table.specs.Accepted.{Accepted}
use Rattle.arcs.specs.Work.{InWork}
use Rattle.arcs.proofs.Work.{in_work_kept}
use Rattle.solver.proofs.Solved.{source_sums, filled_by}
use Rattle.solver.proofs.solve_filled.Goals as goal

pub run-outcome-requires : goal.run-outcome-requires
run-outcome-requires c =
    (c.requires.fact.0, c.requires.fact.1, c.requires.flow_len.0)

pub value-value-requires : goal.value-value-requires
value-value-requires c =
    let table : Table = table_in c.args.table.now in
    let accepted : Accepted table = c.requires.fact.0 in
    let flow : List ℕ = c.run-outcome.new.flow in
    let as_long : length flow ≡ arcs table = c.run-outcome.auto.flow ∙ c.requires.flow_len.0 in
    let rows = accepted.rows in record {
      heads_len = (rows.ends.heads_long, omega (arith, rows.capacities_long, as_long), rows.ends.few_arcs);
      heads_bound = source_sums table accepted flow c.run-outcome.ensures.flow_is;
    }

pub mark-requires : goal.mark-requires
mark-requires c =
    let table : Table = table_in c.args.table.now in
    let accepted : Accepted table = c.requires.fact.0 in
    let flow : List ℕ = c.run-outcome.new.flow in
    let work : List ℕ = c.run-outcome.new.work in
    let as_long : length flow ≡ arcs table = c.run-outcome.auto.flow ∙ c.requires.flow_len.0 in
    let in_work : InWork table work = in_work_kept table c.args.work.now work c.run-outcome.ensures.lists_stay (sym c.run-outcome.auto.work) c.requires.fact.1 in
    record {
      arc_rows = (accepted.rows, omega (arith, as_long), accepted.source);
      by_index = (_, _, in_work);
      n_in_bounds = c.requires.flow_len.1;
    }

pub returns : goal.returns
returns c =
    let table : Table = table_in c.args.table.now in
    let accepted : Accepted table = c.requires.fact.0 in
    let flow : List ℕ = c.run-outcome.new.flow in
    let work : List ℕ = c.run-outcome.new.work in
    filled_by table c.args.stamp c.args.side.now c.args.work.now c.run-outcome.result c.value-value.result c.answer_of.result flow
    c.mark.new.side work
    c.run-outcome.ensures
    (c.value-value.ensures _ _ _ accepted.rows.capacities_long)
    (c.mark.ensures _)
    c.answer_of.ensures
