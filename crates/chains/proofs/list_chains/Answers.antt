-- `list_chains` meets its contract: the checks in their order, then the accepted table and the list's ROOM. What it shows follows from the equation.
use Rattle.chains.proofs.Showing.{refused_listing, fine_listing, fine_accepted, fine_roomy, listing_shows}
use Rattle.chains.specs.Listing.{Shown, listing, Shows}
use Rattle.verdicts.specs.Plain.{plain_verdict}
use Rattle.minimums.specs.BoundedTable.{BoundedTable, bounded_of, bounded_in}
use Rattle.minimums.specs.Checks.{plain_check}
use lib.ListN.{length}
use mathlib.Core.Path.{◌≡◌, ap, ◌∙◌}
use Rattle.chains.proofs.list_chains.Goals as goal

pub list_table-requires : goal.list_table-requires
list_table-requires c =
    let bounded : BoundedTable = bounded_in c.args.bounded.now in
    let found : c.plain_check.result ≡ plain_verdict bounded (length c.args.flow.now) (length c.args.side.now) (length c.args.work.now) = c.plain_check.ensures ∙ ap (plain_check bounded) c.has_room-room.ensures in
    let given = c.args in
    let room = fine_roomy bounded given.stamp given.flow.now given.side.now given.work.now given.list.now _ found c.in-Ok.is in record {
      accepted = fine_accepted bounded given.stamp given.flow.now given.side.now given.work.now given.list.now _ found c.in-Ok.is;
      given_room = (room.for_flow, room.for_side, room.for_work);
    }

pub returns-in-Err : goal.returns-in-Err
returns-in-Err c =
    let bounded : BoundedTable = bounded_in c.args.bounded.now in
    let found : c.plain_check.result ≡ plain_verdict bounded (length c.args.flow.now) (length c.args.side.now) (length c.args.work.now) = c.plain_check.ensures ∙ ap (plain_check bounded) c.has_room-room.ensures in
    let whole : (l : Shown) → l ≡ listing bounded c.args.stamp c.args.flow.now c.args.side.now c.args.work.now c.args.list.now → (l ≡ listing bounded c.args.stamp c.args.flow.now c.args.side.now c.args.work.now c.args.list.now) × (l.solving.answer.refusal ≡ 0 → Shows bounded.table l) = λ l e. (e, listing_shows bounded c.args.stamp c.args.flow.now c.args.side.now c.args.work.now c.args.list.now l e) in
    let given = c.args in
    let the_facts = whole _
    (refused_listing bounded given.stamp given.flow.now given.side.now given.work.now given.list.now _ found _ _ c.in-Err.is c.into.result c.into.ensures) in record {
      exact = the_facts.0;
      shows = the_facts.1;
    }

pub returns-in-Ok : goal.returns-in-Ok
returns-in-Ok c =
    let bounded : BoundedTable = bounded_in c.args.bounded.now in
    let found : c.plain_check.result ≡ plain_verdict bounded (length c.args.flow.now) (length c.args.side.now) (length c.args.work.now) = c.plain_check.ensures ∙ ap (plain_check bounded) c.has_room-room.ensures in
    let whole : (l : Shown) → l ≡ listing bounded c.args.stamp c.args.flow.now c.args.side.now c.args.work.now c.args.list.now → (l ≡ listing bounded c.args.stamp c.args.flow.now c.args.side.now c.args.work.now c.args.list.now) × (l.solving.answer.refusal ≡ 0 → Shows bounded.table l) = λ l e. (e, listing_shows bounded c.args.stamp c.args.flow.now c.args.side.now c.args.work.now c.args.list.now l e) in
    let given = c.args in
    let the_facts = whole _
    (fine_listing bounded given.stamp given.flow.now given.side.now given.work.now given.list.now _ found c.in-Ok.is _ c.list_table.ensures) in record {
      exact = the_facts.0;
      shows = the_facts.1;
    }
