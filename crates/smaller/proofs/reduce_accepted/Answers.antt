-- `reduce_accepted` meets its contract: live nodes are found in room of its own, and the smaller table is made by them.
use Rattle.std.proofs.Common.{ℕ, ◌≤◌, length, replicate, sym, ap, arith}
use lib.ListN.{length-replicate}
use Rattle.smaller.proofs.reduce_accepted.Goals as goal

pub find_live-requires : goal.find_live-requires
find_live-requires c =
    let few : (length c.args.table.now.capacities.now ≤ 4096) × (c.args.table.now.nodes ≤ 512) = let rows = c.requires.accepted.0.rows in omega (arith, rows.ends.few_arcs, rows.capacities_long, rows.ends.few_nodes) in
    let (arcs, nodes) = few in record {
      accepted = (c.requires.accepted.0, ap (λ (l : ℕ). replicate l 0) (sym (length-replicate {A = ℕ} 4096 0)));
      capacities_in_bounds = (omega (arith, length-replicate {A = ℕ} 4096 0), omega (arith, length-replicate {A = ℕ} 10241 0), omega (arith, length-replicate {A = ℕ} 512 0), omega (arith, length-replicate {A = ℕ} 512 0));
    }

pub reduce_cut-requires : goal.reduce_cut-requires
reduce_cut-requires c =
    let few : (length c.args.table.now.capacities.now ≤ 4096) × (c.args.table.now.nodes ≤ 512) = let rows = c.requires.accepted.0.rows in omega (arith, rows.ends.few_arcs, rows.capacities_long, rows.ends.few_nodes) in
    let (arcs, nodes) = few in record {
      fact = (c.requires.accepted.0, c.find_live.ensures.in_work, c.find_live.ensures.fact.0, c.find_live.ensures.fact.1);
      n_in_bounds = (
        omega (arith, c.find_live.auto.ahead, length-replicate {A = ℕ} 512 0),
        omega (arith, c.find_live.auto.behind, length-replicate {A = ℕ} 512 0),
        omega (arith, length-replicate {A = ℕ} 512 0),
        omega (arith, length-replicate {A = ℕ} 4096 0),
        omega (arith, length-replicate {A = ℕ} 512 0),
        omega (arith, length-replicate {A = ℕ} 10241 0),
        c.requires.accepted.1,
      );
      given_room_to_reduce = c.requires.given_room_to_reduce;
    }
