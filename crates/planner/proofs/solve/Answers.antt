-- `solve` meets its contract: the verdict of four rows, then its refusal or the accepted table.
use mathlib.Core.Path.{◌≡◌, ap, ◌∙◌}
use lib.ListN.{length}
use Rattle.minimums.specs.BoundedTable.{BoundedTable, bounded_of, bounded_in}
use Rattle.minimums.specs.Checks.{bounded_check}
use Rattle.planner.specs.Solving.{SignedLeft, bounded_verdict, Solves, SolvesWell}
use Rattle.planner.proofs.Answers.{solves_refused, solves_fine, fine_solvable}
use Rattle.planner.proofs.Demands.{solves_well}
use Rattle.planner.proofs.solve.Goals as goal

pub solve_accepted-requires : goal.solve_accepted-requires
solve_accepted-requires c =
    let table : BoundedTable = bounded_in c.args.bounded.now in
    let found : c.check.result ≡ bounded_verdict table (length c.args.flow.now) (length c.args.side.now) (length c.args.work.now) = c.check.ensures ∙ ap (bounded_check table) c.has_room-room.ensures in
    let the_facts = fine_solvable table c.args.stamp c.args.flow.now c.args.side.now c.args.work.now found c.in-Ok.is in record {
      solvable = the_facts.0;
      capacities_in_bounds = the_facts.1;
    }

pub returns-in-Err : goal.returns-in-Err
returns-in-Err c =
    let table : BoundedTable = bounded_in c.args.bounded.now in
    let found : c.check.result ≡ bounded_verdict table (length c.args.flow.now) (length c.args.side.now) (length c.args.work.now) = c.check.ensures ∙ ap (bounded_check table) c.has_room-room.ensures in
    let whole : (l : SignedLeft) → Solves table c.args.stamp c.args.flow.now c.args.side.now c.args.work.now l → Solves table c.args.stamp c.args.flow.now c.args.side.now c.args.work.now l × (l.answer.refusal ≡ 0 → SolvesWell table l) = λ l so. (so, solves_well table c.args.stamp c.args.flow.now c.args.side.now c.args.work.now l so) in
    let the_facts = whole _
    (solves_refused table c.args.stamp c.args.flow.now c.args.side.now c.args.work.now found c.in-Err.is c.into.ensures) in record {
      exact = the_facts.0;
      best = the_facts.1;
    }

pub returns-in-Ok : goal.returns-in-Ok
returns-in-Ok c =
    let table : BoundedTable = bounded_in c.args.bounded.now in
    let found : c.check.result ≡ bounded_verdict table (length c.args.flow.now) (length c.args.side.now) (length c.args.work.now) = c.check.ensures ∙ ap (bounded_check table) c.has_room-room.ensures in
    let whole : (l : SignedLeft) → Solves table c.args.stamp c.args.flow.now c.args.side.now c.args.work.now l → Solves table c.args.stamp c.args.flow.now c.args.side.now c.args.work.now l × (l.answer.refusal ≡ 0 → SolvesWell table l) = λ l so. (so, solves_well table c.args.stamp c.args.flow.now c.args.side.now c.args.work.now l so) in
    let the_facts = whole _
    (solves_fine table c.args.stamp c.args.flow.now c.args.side.now c.args.work.now found c.in-Ok.is _ c.solve_accepted.ensures) in record {
      exact = the_facts.0;
      best = the_facts.1;
    }
