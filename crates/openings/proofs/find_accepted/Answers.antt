-- `find_accepted` meets its contract: the table is solved in room of its own, and what was found is handed over.
use Prim.Native.Nat.{ℕ, ◌≤◌}
use mathlib.Core.Path.{◌≡◌, sym, ap, ◌∙◌}
use native.Mathlib.Omega.{arith}
use lib.ListN.{length, take, length-replicate}
use Rattle.table.specs.Table.{Table, table_of, table_in}
use Rattle.openings.proofs.Handing.{handed_finding}
use Rattle.openings.proofs.find_accepted.Goals as goal

pub solve_sides-answer-requires : goal.solve_sides-answer-requires
solve_sides-answer-requires c =
    let few : (length c.args.table.now.capacities.now ≤ 4096) × (c.args.table.now.nodes ≤ 512) × (length c.args.table.now.tails.now ≡ length c.args.table.now.capacities.now) = let rows = c.requires.accepted.rows in (omega (arith, rows.ends.few_arcs, rows.capacities_long), rows.ends.few_nodes, sym rows.capacities_long) in
    let (arcs, nodes, _) = few in record {
      accepted = c.requires.accepted;
      capacities_in_bounds = (omega (arith, length-replicate {A = ℕ} 4096 0), omega (arith, length-replicate {A = ℕ} 512 0), omega (arith, length-replicate {A = ℕ} 512 0), omega (arith, length-replicate {A = ℕ} 10241 0));
    }

pub hand_lists-requires : goal.hand_lists-requires
hand_lists-requires c =
    let few : (length c.args.table.now.capacities.now ≤ 4096) × (c.args.table.now.nodes ≤ 512) × (length c.args.table.now.tails.now ≡ length c.args.table.now.capacities.now) = let rows = c.requires.accepted.rows in (omega (arith, rows.ends.few_arcs, rows.capacities_long), rows.ends.few_nodes, sym rows.capacities_long) in
    let (arcs, nodes, long) = few in record {
      arc_ends = (
        c.requires.accepted.rows.ends,
        omega (arith, c.solve_sides-answer.auto.flow, length-replicate {A = ℕ} 4096 0),
        omega (arith, c.solve_sides-answer.auto.side, length-replicate {A = ℕ} 512 0),
        omega (arith, c.solve_sides-answer.auto.drains, length-replicate {A = ℕ} 512 0),
      );
      given_room = (omega (arith, c.requires.given_room.0), c.requires.given_room.1, omega (arith, c.requires.given_room.2));
    }

pub returns : goal.returns
returns c =
    let table : Table = table_in c.args.table.now in
    let few : (length c.args.table.now.capacities.now ≤ 4096) × (c.args.table.now.nodes ≤ 512) × (length c.args.table.now.tails.now ≡ length c.args.table.now.capacities.now) = let rows = c.requires.accepted.rows in (omega (arith, rows.ends.few_arcs, rows.capacities_long), rows.ends.few_nodes, sym rows.capacities_long) in
    let given = c.args in
    let found = c.solve_sides-answer.new.flow in
    c.hand_lists.ensures
    ∙ handed_finding table c.requires.accepted given.stamp c.solve_sides-answer.result _ _ _ given.flow.now given.side.now given.work.now given.sources.now given.sinks.now given.places.now
    c.solve_sides-answer.ensures.answer_is (ap (λ (m : ℕ). take m found) few.2 ∙ c.solve_sides-answer.ensures.flow_is) c.solve_sides-answer.ensures.side_is c.solve_sides-answer.ensures.sinks_are
