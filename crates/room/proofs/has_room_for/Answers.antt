-- `has_room_for` meets its contract: the checks in their order, then the run that stops. What it says of the full answer follows from the equation.
use mathlib.Core.Path.{◌≡◌, ap, ◌∙◌}
use Rattle.minimums.specs.BoundedTable.{BoundedTable, bounded_of, bounded_in}
use Rattle.minimums.specs.Checks.{plain_check}
use Rattle.asking.specs.Asking.{RoomLeft, asking_verdict, asking, Says}
use Rattle.asking.proofs.Answering.{fine_accepted, asking_says}
use Rattle.room.proofs.Asked.{asked_rows, refused_asking, fine_asking}
use lib.ListN.{length}
use Rattle.room.proofs.has_room_for.Goals as goal

pub halt-stop-requires : goal.halt-stop-requires
halt-stop-requires c =
    let bounded : BoundedTable = bounded_in c.args.bounded.now in
    let found : c.plain_check.result ≡ asking_verdict bounded (length c.args.work.now) = c.plain_check.ensures ∙ ap (plain_check bounded) c.has_work-roomy.ensures in
    let given = c.args in
    fine_accepted bounded (length given.work.now) _ found c.in-Ok.is

pub returns-in-Err : goal.returns-in-Err
returns-in-Err c =
    let bounded : BoundedTable = bounded_in c.args.bounded.now in
    let found : c.plain_check.result ≡ asking_verdict bounded (length c.args.work.now) = c.plain_check.ensures ∙ ap (plain_check bounded) c.has_work-roomy.ensures in
    let whole : (l : RoomLeft) → l ≡ asking bounded c.args.stamp c.args.q c.args.work.now → (l ≡ asking bounded c.args.stamp c.args.q c.args.work.now) × (l.answer.refusal ≡ 0 → Says bounded.table c.args.q l.answer) = λ l e. (e, asking_says bounded c.args.stamp c.args.q c.args.work.now l e) in
    let given = c.args in
    let the_facts = whole _ (refused_asking bounded given.stamp given.q given.work.now _ found _ _ c.in-Err.is c.into.result c.into.ensures) in record {
      exact = the_facts.0;
      says = the_facts.1;
    }

pub returns-in-Ok : goal.returns-in-Ok
returns-in-Ok c =
    let bounded : BoundedTable = bounded_in c.args.bounded.now in
    let found : c.plain_check.result ≡ asking_verdict bounded (length c.args.work.now) = c.plain_check.ensures ∙ ap (plain_check bounded) c.has_work-roomy.ensures in
    let whole : (l : RoomLeft) → l ≡ asking bounded c.args.stamp c.args.q c.args.work.now → (l ≡ asking bounded c.args.stamp c.args.q c.args.work.now) × (l.answer.refusal ≡ 0 → Says bounded.table c.args.q l.answer) = λ l e. (e, asking_says bounded c.args.stamp c.args.q c.args.work.now l e) in
    let given = c.args in
    let the_facts = whole _
    (fine_asking bounded given.stamp given.q given.work.now _ found c.in-Ok.is _
    (asked_rows bounded.table given.stamp given.q given.work.now c.halt-stop.result c.answer_of.result c.halt-stop.new.work c.halt-stop.ensures c.answer_of.ensures)) in record {
      exact = the_facts.0;
      says = the_facts.1;
    }
