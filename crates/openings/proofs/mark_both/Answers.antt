-- `mark_both` meets its contract: the lists serve the run and both sides.
use Prim.Native.Nat.{ℕ}
use mathlib.Core.Path.{sym, ◌∙◌}
use mathlib.Core.List.{List}
use native.Mathlib.Omega.{arith}
use Rattle.table.specs.Table.{Table, table_in}
use Rattle.arcs.specs.Work.{InWork}
use Rattle.arcs.proofs.Ends.{ends_wide}
use Rattle.arcs.proofs.Work.{in_work_kept}
use Rattle.openings.proofs.Sides.{filled_sides}
use Rattle.openings.proofs.mark_both.Goals as goal

pub fill_work-requires : goal.fill_work-requires
fill_work-requires c =
    let rows = c.requires.accepted.rows in
    (ends_wide rows.ends, omega (arith, rows.capacities_long, c.requires.flow_len.3))

pub solve_filled-answer-requires : goal.solve_filled-answer-requires
solve_filled-answer-requires c =
    let table : Table = table_in c.args.table.now in
    let filled : List ℕ = c.fill_work.new.work in
    let in_work : InWork table filled = c.fill_work.ensures.listed _ _ _ c.requires.accepted.rows.capacities_long in
    record {
      fact = (c.requires.accepted, in_work);
      flow_len = (c.requires.flow_len.0, c.requires.flow_len.1);
    }

pub mark_sink_side-requires : goal.mark_sink_side-requires
mark_sink_side-requires c =
    let table : Table = table_in c.args.table.now in
    let filled : List ℕ = c.fill_work.new.work in
    let in_work : InWork table filled = c.fill_work.ensures.listed _ _ _ c.requires.accepted.rows.capacities_long in
    let worked : List ℕ = c.solve_filled-answer.new.work in
    let still : InWork table worked = in_work_kept table filled worked c.solve_filled-answer.ensures.lists_stay (sym c.solve_filled-answer.auto.work) in_work in
    let long = c.solve_filled-answer.auto.flow ∙ c.requires.flow_len.0 in record {
      arc_rows = (c.requires.accepted.rows, omega (arith, long), c.requires.accepted.sink);
      in_work = still;
      n_in_bounds = c.requires.flow_len.2;
    }

pub returns : goal.returns
returns c =
    let table : Table = table_in c.args.table.now in
    filled_sides table c.requires.accepted c.args.drains.now _ c.solve_filled-answer.ensures c.mark_sink_side.ensures
