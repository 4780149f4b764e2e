-- `solve_rows` meets its contract: the lists are filled in, the table is solved, and the row is cleared.
use Prim.Native.Nat.{ℕ}
use mathlib.Core.Path.{sym, subst, ◌∙◌}
use mathlib.Core.List.{List}
use native.Mathlib.Omega.{arith}
use lib.ListN.{length}
use Rattle.table.specs.Table.{Table, table_in}
use Rattle.arcs.specs.Work.{ElseSame}
use Rattle.arcs.proofs.Ends.{ends_wide}
use Rattle.arcs.proofs.Work.{cleared_is}
use Rattle.solver.proofs.Solved.{solved_rows}
use Rattle.solver.proofs.solve_rows.Goals as goal

pub fill_work-requires : goal.fill_work-requires
fill_work-requires c =
    let rows = c.requires.accepted.rows in
    (ends_wide rows.ends, omega (arith, rows.capacities_long, c.requires.flow_len.2))

pub solve_filled-answer-requires : goal.solve_filled-answer-requires
solve_filled-answer-requires c = record {
  fact = (c.requires.accepted, c.fill_work.ensures.listed _ _ _ c.requires.accepted.rows.capacities_long);
  flow_len = (c.requires.flow_len.0, c.requires.flow_len.1);
}

pub work_need-requires : goal.work_need-requires
work_need-requires c =
    omega (arith, c.requires.accepted.rows.ends.few_arcs, c.requires.accepted.rows.capacities_long)

pub clear-requires : goal.clear-requires
clear-requires c =
    omega (arith, c.work_need.ensures, c.requires.flow_len.2, c.fill_work.auto.work, c.solve_filled-answer.auto.work)

pub returns : goal.returns
returns c =
    let table : Table = table_in c.args.table.now in
    let filled : List ℕ = c.fill_work.new.work in
    let given = c.args in
    let worked = c.solve_filled-answer.new.work in
    solved_rows table given.stamp given.flow.now given.side.now given.work.now filled c.solve_filled-answer.result _ _ worked _
    c.requires.flow_len.0 c.solve_filled-answer.ensures
    (c.clear.ensures
    ∙ cleared_is given.table.now.nodes (length given.table.now.capacities.now) _ c.work_need.ensures given.work.now filled worked
    (subst (λ (k : ℕ). ElseSame given.table.now.nodes k given.work.now filled) (sym c.requires.accepted.rows.capacities_long) c.fill_work.ensures.same) c.solve_filled-answer.ensures.lists_stay)
