-- `solve_accepted` meets its contract: document 01's solving with its value signed, or solving with minimums.
use Prim.Native.Nat.{◌≤◌}
use mathlib.Core.Path.{sym, subst}
use Rattle.table.specs.Table.{table_of, table_in}
use Rattle.solver.specs.Solving.{Left}
use Rattle.minimums.specs.BoundedTable.{bounded_of, bounded_in}
use Rattle.feasible.proofs.Accepting.{table_accepted}
use Rattle.planner.proofs.Answers.{solved_value, fine_plain, fine_bounded, signed_same}
use Rattle.planner.proofs.solve_accepted.Goals as goal

pub solve_table-requires : goal.solve_table-requires
solve_table-requires c = record {
  accepted = table_accepted _ c.requires.solvable.accepted;
  given_room = (c.requires.solvable.flow_long, c.requires.solvable.side_long, c.requires.capacities_in_bounds);
}

pub with_sign-requires : goal.with_sign-requires
with_sign-requires c =
    subst (λ (l : Left). l.answer.value ≤ 4096000000) (sym c.solve_table.ensures)
    (solved_value (table_in c.args.bounded.now.table) (table_accepted _ c.requires.solvable.accepted) c.args.stamp c.args.flow.now c.args.side.now c.args.work.now)

pub returns-then-is_all_zero : goal.returns-then-is_all_zero
returns-then-is_all_zero c =
    fine_plain (bounded_in c.args.bounded.now) c.args.stamp c.args.flow.now c.args.side.now c.args.work.now _ c.if-is_all_zero.true c.is_all_zero.ensures (signed_same c.with_sign.ensures c.solve_table.ensures)

pub returns : goal.returns
returns c =
    fine_bounded (bounded_in c.args.bounded.now) c.args.stamp c.args.flow.now c.args.side.now c.args.work.now _ c.if-is_all_zero.false c.is_all_zero.ensures c.solve_some.ensures
