-- `reduce` meets its contract: the checks in their order, then the accepted table. The rest of the promise follows from the equation.
use Rattle.std.proofs.Common.{◌≡◌, ◌&&◌, length, ap, ◌∙◌}
use Rattle.minimums.specs.BoundedTable.{BoundedTable, bounded_of, bounded_in}
use Rattle.minimums.specs.Checks.{plain_check}
use Rattle.keeping.specs.SmallRows.{SmallRows, small_rows}
use Rattle.smaller.specs.Reducing.{LeftReduced, has_small_room, reducing_verdict, reducing, Reduces}
use Rattle.smaller.proofs.Reducing.{refused_reducing, fine_reducing, fine_accepted, fine_roomy, reducing_reduces}
use Rattle.smaller.proofs.reduce.Goals as goal

pub reduce_accepted-requires : goal.reduce_accepted-requires
reduce_accepted-requires c =
    let bounded : BoundedTable = bounded_in c.args.bounded.now in
    let small : SmallRows = small_rows c.args.small_tails.now c.args.small_heads.now c.args.small_capacities.now c.args.nodes_from.now c.args.arcs_from.now in
    let checked : c.plain_check.result ≡ reducing_verdict bounded (length c.args.flow.now) (length c.args.side.now) (length c.args.work.now) small = c.plain_check.ensures ∙ ap (plain_check bounded) (c.has_small_room-room.ensures ∙ ap (λ room. room && has_small_room bounded.table.nodes (length bounded.table.capacities) (length small.tails) (length small.heads) (length small.capacities) (length small.nodes_from) (length small.arcs_from)) c.has_room-solving.ensures) in
    let given = c.args in
    let (room, roomy) = fine_roomy bounded given.stamp given.flow.now given.side.now given.work.now small _ checked c.in-Ok.is in
    let ok = fine_accepted bounded given.stamp given.flow.now given.side.now given.work.now small _ checked c.in-Ok.is in record {
      accepted = (ok, room.for_flow);
      given_room_to_reduce = (room.for_side, room.for_work, roomy.for_tails, roomy.for_heads, roomy.for_capacities, roomy.for_nodes, roomy.for_arcs);
    }

pub returns-in-Err : goal.returns-in-Err
returns-in-Err c =
    let bounded : BoundedTable = bounded_in c.args.bounded.now in
    let small : SmallRows = small_rows c.args.small_tails.now c.args.small_heads.now c.args.small_capacities.now c.args.nodes_from.now c.args.arcs_from.now in
    let checked : c.plain_check.result ≡ reducing_verdict bounded (length c.args.flow.now) (length c.args.side.now) (length c.args.work.now) small = c.plain_check.ensures ∙ ap (plain_check bounded) (c.has_small_room-room.ensures ∙ ap (λ room. room && has_small_room bounded.table.nodes (length bounded.table.capacities) (length small.tails) (length small.heads) (length small.capacities) (length small.nodes_from) (length small.arcs_from)) c.has_room-solving.ensures) in
    let answered : LeftReduced = reducing bounded c.args.stamp c.args.flow.now c.args.side.now c.args.work.now small in
    let whole : (l : LeftReduced) → l ≡ answered → (l ≡ answered) × (l.reduced.answer.refusal ≡ 0 → Reduces bounded.table l) = λ l e. (e, reducing_reduces bounded c.args.stamp c.args.flow.now c.args.side.now c.args.work.now small l e) in
    let given = c.args in
    let the_facts = whole _
    (refused_reducing bounded given.stamp given.flow.now given.side.now given.work.now small _ checked _ _ c.in-Err.is c.into.result c.into.ensures) in record {
      exact = the_facts.0;
      means = the_facts.1;
    }

pub returns-in-Ok : goal.returns-in-Ok
returns-in-Ok c =
    let bounded : BoundedTable = bounded_in c.args.bounded.now in
    let small : SmallRows = small_rows c.args.small_tails.now c.args.small_heads.now c.args.small_capacities.now c.args.nodes_from.now c.args.arcs_from.now in
    let checked : c.plain_check.result ≡ reducing_verdict bounded (length c.args.flow.now) (length c.args.side.now) (length c.args.work.now) small = c.plain_check.ensures ∙ ap (plain_check bounded) (c.has_small_room-room.ensures ∙ ap (λ room. room && has_small_room bounded.table.nodes (length bounded.table.capacities) (length small.tails) (length small.heads) (length small.capacities) (length small.nodes_from) (length small.arcs_from)) c.has_room-solving.ensures) in
    let answered : LeftReduced = reducing bounded c.args.stamp c.args.flow.now c.args.side.now c.args.work.now small in
    let whole : (l : LeftReduced) → l ≡ answered → (l ≡ answered) × (l.reduced.answer.refusal ≡ 0 → Reduces bounded.table l) = λ l e. (e, reducing_reduces bounded c.args.stamp c.args.flow.now c.args.side.now c.args.work.now small l e) in
    let given = c.args in
    let the_facts = whole _
    (fine_reducing bounded given.stamp given.flow.now given.side.now given.work.now small _ checked c.in-Ok.is _ c.reduce_accepted.ensures) in record {
      exact = the_facts.0;
      means = the_facts.1;
    }
