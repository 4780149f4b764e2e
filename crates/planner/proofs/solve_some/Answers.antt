-- `solve_some` meets its contract: no flow, or one of greatest value and a cleared work row.
use mathlib.Core.Path.{ap, ◌∙◌}
use Rattle.rows.specs.Row.{cleared}
use Rattle.minimums.specs.BoundedTable.{bounded_in}
use Rattle.planner.proofs.Answers.{bounding_none, bounding_found}
use Rattle.table.specs.declared.Refusal.{Refusal}
use Rattle.planner.specs.Solving.{signed_refusal}
use Rattle.planner.proofs.solve_some.Goals as goal

pub returns-in_default : goal.returns-in_default
returns-in_default c =
    bounding_none (bounded_in c.args.bounded.now) c.args.stamp c.args.flow.now c.args.side.now c.args.work.now c.solve_bounded.ensures c.in_default.is (c.into.ensures ∙ ap (λ (r : Refusal). signed_refusal r.name r.place) c.at.ensures)

pub returns : goal.returns
returns c =
    bounding_found (bounded_in c.args.bounded.now) c.args.stamp c.args.flow.now c.args.side.now c.args.work.now c.solve_bounded.ensures c.in-Some.is c.signed_answer.ensures
    (c.clear.ensures ∙ ap (λ k. cleared k c.args.work.now) c.work_need.ensures)
