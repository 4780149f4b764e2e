-- `reduce_marked` meets its contract: the smaller table is written and solved, and its flow put back.
use Rattle.std.proofs.Common.{◌≤◌, length, arith}
use mathlib.Core.Path.{subst⁻¹}
use Rattle.table.specs.Table.{Table, table_of, table_in}
use Rattle.table.specs.Accepted.{Accepted, ArcEnds}
use Rattle.listing.proofs.Listing.{passing_few, passing_fewer}
use Rattle.shrinking.specs.Smaller.{keeps_node, keeps_arc}
use Rattle.shrinking.proofs.Shrinking.{zero_not, smaller_accepted}
use Rattle.keeping.specs.SmallRows.{SmallRows, small_rows}
use Rattle.smaller.proofs.Reducing.{Made, made, small_is, reduced_is}
use Rattle.smaller.proofs.reduce_marked.Goals as goal

pub write_small-sizes-requires : goal.write_small-sizes-requires
write_small-sizes-requires c =
    let arcs = c.requires.fact.0.rows.capacities_long in record {
      arc_ends = (
        subst⁻¹ (λ k. ArcEnds k c.args.table.now.tails.now c.args.table.now.heads.now) c.requires.ahead_len.0 c.requires.fact.0.rows.ends,
        omega (arith, c.requires.ahead_len.0, c.requires.ahead_len.1),
        omega (arith, c.requires.ahead_len.0, c.requires.ahead_len.2),
        arcs,
      );
      node = (omega (arith, c.requires.ahead_len.0, c.requires.fact.0.source), omega (arith, c.requires.ahead_len.0, c.requires.fact.0.sink));
      tails_in_bounds = (omega (arith, arcs, c.requires.given_room_to_reduce.2), omega (arith, arcs, c.requires.given_room_to_reduce.3), omega (arith, arcs, c.requires.given_room_to_reduce.4), omega (arith, c.requires.ahead_len.0, c.requires.given_room_to_reduce.5), omega (arith, arcs, c.requires.given_room_to_reduce.6));
    }

pub solve_small-answer-requires : goal.solve_small-answer-requires
solve_small-answer-requires c =
    let small : SmallRows = let args = c.args in small_rows args.small_tails.now args.small_heads.now args.small_capacities.now args.nodes_from.now args.arcs_from.now in
    let table : Table = table_in c.args.table.now in
    let accepted : Accepted table = c.requires.fact.0 in
    let is_made : Made table accepted c.args.ahead.now c.args.behind.now c.requires.fact.2 c.requires.fact.3 small c.write_small-sizes.result _ c.write_small-sizes.ensures = made table accepted c.args.ahead.now c.args.behind.now c.requires.fact.2 c.requires.fact.3 small c.write_small-sizes.result _ c.write_small-sizes.ensures in
    let few_arcs : (c.write_small-sizes.result.arcs ≤ length c.args.table.now.capacities.now) × (length c.args.table.now.capacities.now ≤ 4096) = omega (arith, is_made.arcs_are, passing_few (keeps_arc table) (length c.args.table.now.capacities.now), accepted.rows.ends.few_arcs, accepted.rows.capacities_long) in
    let few_nodes : c.write_small-sizes.result.nodes ≤ 512 = omega (arith, is_made.nodes_are, passing_fewer (keeps_node table) (zero_not table accepted) c.args.table.now.nodes, accepted.rows.ends.few_nodes) in
    let arcs = few_arcs in
    let nodes = few_nodes in record {
      accepted = subst⁻¹ Accepted
          (small_is table accepted c.args.ahead.now c.args.behind.now c.requires.fact.2 c.requires.fact.3 small c.write_small-sizes.result _ c.write_small-sizes.ensures)
          (smaller_accepted table accepted);
      arcs_in_bounds = (
        omega (arith, arcs, c.requires.given_room_to_reduce.2, c.write_small-sizes.auto.small_tails),
        omega (arith, arcs, c.requires.given_room_to_reduce.3, c.write_small-sizes.auto.small_heads),
        omega (arith, arcs, c.requires.given_room_to_reduce.4, c.write_small-sizes.auto.small_capacities),
        omega (arith, arcs, c.requires.ahead_len.3),
        omega (arith, nodes, c.requires.ahead_len.4),
        omega (arith, arcs, nodes, c.requires.ahead_len.5),
      );
    }

pub put_all_back-requires : goal.put_all_back-requires
put_all_back-requires c =
    let small : SmallRows = let args = c.args in small_rows args.small_tails.now args.small_heads.now args.small_capacities.now args.nodes_from.now args.arcs_from.now in
    let table : Table = table_in c.args.table.now in
    let accepted : Accepted table = c.requires.fact.0 in
    let is_made : Made table accepted c.args.ahead.now c.args.behind.now c.requires.fact.2 c.requires.fact.3 small c.write_small-sizes.result _ c.write_small-sizes.ensures = made table accepted c.args.ahead.now c.args.behind.now c.requires.fact.2 c.requires.fact.3 small c.write_small-sizes.result _ c.write_small-sizes.ensures in
    let few_arcs : (c.write_small-sizes.result.arcs ≤ length c.args.table.now.capacities.now) × (length c.args.table.now.capacities.now ≤ 4096) = omega (arith, is_made.arcs_are, passing_few (keeps_arc table) (length c.args.table.now.capacities.now), accepted.rows.ends.few_arcs, accepted.rows.capacities_long) in
    record {
      fact = (c.requires.fact.0, c.requires.fact.1);
      ahead_len = (c.requires.ahead_len.0, c.requires.ahead_len.1, omega (arith, few_arcs, c.requires.ahead_len.3, c.solve_small-answer.auto.flows), c.requires.ahead_len.6, c.requires.given_room_to_reduce.0, c.requires.given_room_to_reduce.1);
    }

pub shape_of-numbers : goal.shape_of-numbers
shape_of-numbers c = c.write_small-sizes.auto.numbers

pub shape_of-small_tails : goal.shape_of-small_tails
shape_of-small_tails c = c.write_small-sizes.auto.small_tails

pub shape_of-small_heads : goal.shape_of-small_heads
shape_of-small_heads c = c.write_small-sizes.auto.small_heads

pub shape_of-small_capacities : goal.shape_of-small_capacities
shape_of-small_capacities c = c.write_small-sizes.auto.small_capacities

pub shape_of-nodes_from : goal.shape_of-nodes_from
shape_of-nodes_from c = c.write_small-sizes.auto.nodes_from

pub shape_of-arcs_from : goal.shape_of-arcs_from
shape_of-arcs_from c = c.write_small-sizes.auto.arcs_from

pub returns : goal.returns
returns c =
    let small : SmallRows = let args = c.args in small_rows args.small_tails.now args.small_heads.now args.small_capacities.now args.nodes_from.now args.arcs_from.now in
    let table : Table = table_in c.args.table.now in
    let accepted : Accepted table = c.requires.fact.0 in
    let given = c.args in
    reduced_is table accepted given.ahead.now given.behind.now c.requires.fact.2 c.requires.fact.3 small c.write_small-sizes.result _ c.write_small-sizes.ensures
    given.stamp given.flow.now given.side.now given.work.now c.solve_small-answer.new.flows c.solve_small-answer.result c.raise_stamp.result _ _ _
    c.requires.ahead_len.6 c.solve_small-answer.ensures.1 c.solve_small-answer.ensures.0 c.raise_stamp.ensures c.put_all_back.ensures.flow_value c.put_all_back.ensures.side_value c.put_all_back.ensures.work_value
