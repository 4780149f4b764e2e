-- `find_openings` meets its contract: the checks in their order, then the accepted table. The rest of the promise follows from the equation.
use mathlib.Core.Path.{◌≡◌, ap, ◌∙◌}
use lib.ListN.{length}
use Rattle.minimums.specs.BoundedTable.{BoundedTable, bounded_of, bounded_in}
use Rattle.minimums.specs.Checks.{plain_check}
use Rattle.solver.specs.Solving.{left, Meets}
use Rattle.openings.specs.Helping.{HelpsExactly}
use Rattle.openings.specs.Finding.{LeftOpenings, finding}
use Rattle.verdicts.specs.Plain.{plain_verdict}
use Rattle.openings.proofs.Finding.{refused_finding, fine_finding, fine_accepted, fine_roomy, finding_best}
use Rattle.openings.proofs.find_openings.Goals as goal

pub find_accepted-requires : goal.find_accepted-requires
find_accepted-requires c =
    let bounded : BoundedTable = bounded_in c.args.bounded.now in
    let checked : c.plain_check.result ≡ plain_verdict bounded (length c.args.flow.now) (length c.args.side.now) (length c.args.work.now) = c.plain_check.ensures ∙ ap (plain_check bounded) c.has_room-room.ensures in
    let given = c.args in
    let room = fine_roomy bounded given.stamp given.flow.now given.side.now given.work.now given.sources.now given.sinks.now given.places.now _ checked c.in-Ok.is in record {
      accepted = fine_accepted bounded given.stamp given.flow.now given.side.now given.work.now given.sources.now given.sinks.now given.places.now _ checked c.in-Ok.is;
      given_room = (room.for_flow, room.for_side, room.for_work);
    }

pub returns-in-Err : goal.returns-in-Err
returns-in-Err c =
    let bounded : BoundedTable = bounded_in c.args.bounded.now in
    let checked : c.plain_check.result ≡ plain_verdict bounded (length c.args.flow.now) (length c.args.side.now) (length c.args.work.now) = c.plain_check.ensures ∙ ap (plain_check bounded) c.has_room-room.ensures in
    let answered : LeftOpenings = finding bounded c.args.stamp c.args.flow.now c.args.side.now c.args.work.now c.args.sources.now c.args.sinks.now c.args.places.now in
    let whole : (l : LeftOpenings) → l ≡ answered → (l ≡ answered) × (l.openings.answer.refusal ≡ 0 → Meets bounded.table (left l.openings.answer l.flow l.side l.work) × HelpsExactly bounded.table) = λ l e. let given = c.args in (e, finding_best bounded given.stamp given.flow.now given.side.now given.work.now given.sources.now given.sinks.now given.places.now l e) in
    let given = c.args in
    let the_facts = whole _
    (refused_finding bounded given.stamp given.flow.now given.side.now given.work.now given.sources.now given.sinks.now given.places.now _ checked _ _ c.in-Err.is c.into.result c.into.ensures) in record {
      exact = the_facts.0;
      best = the_facts.1;
    }

pub returns-in-Ok : goal.returns-in-Ok
returns-in-Ok c =
    let bounded : BoundedTable = bounded_in c.args.bounded.now in
    let checked : c.plain_check.result ≡ plain_verdict bounded (length c.args.flow.now) (length c.args.side.now) (length c.args.work.now) = c.plain_check.ensures ∙ ap (plain_check bounded) c.has_room-room.ensures in
    let answered : LeftOpenings = finding bounded c.args.stamp c.args.flow.now c.args.side.now c.args.work.now c.args.sources.now c.args.sinks.now c.args.places.now in
    let whole : (l : LeftOpenings) → l ≡ answered → (l ≡ answered) × (l.openings.answer.refusal ≡ 0 → Meets bounded.table (left l.openings.answer l.flow l.side l.work) × HelpsExactly bounded.table) = λ l e. let given = c.args in (e, finding_best bounded given.stamp given.flow.now given.side.now given.work.now given.sources.now given.sinks.now given.places.now l e) in
    let given = c.args in
    let the_facts = whole _
    (fine_finding bounded given.stamp given.flow.now given.side.now given.work.now given.sources.now given.sinks.now given.places.now _ checked c.in-Ok.is _ c.find_accepted.ensures) in record {
      exact = the_facts.0;
      best = the_facts.1;
    }
