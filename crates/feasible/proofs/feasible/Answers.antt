-- `feasible` meets its contract: the lists, the end of going on in the joined network, and the test of the new source's arcs.
use native.Mathlib.Omega.{arith}
use Rattle.feasible.proofs.Networks.{table_ready, table_lists, table_long, table_tells}
use Rattle.feasible.proofs.feasible.Goals as goal

pub fill_work-requires : goal.fill_work-requires
fill_work-requires c =
    table_lists c.requires.accepted_bounded c.requires.joined_table c.requires.none_value.0 c.requires.none_value.1 _ c.requires.work_end_in_bounds

pub go_on-requires : goal.go_on-requires
go_on-requires c =
    let ready = table_ready c.requires.accepted_bounded c.requires.joined_table c.requires.none_value.0 c.requires.none_value.1 in record {
      ready = ready;
      in_work = c.fill_work.ensures.listed _ _ _ ready.rows.arcs.capacities_long;
    }

pub all_full-requires : goal.all_full-requires
all_full-requires c =
    let long = table_long c.requires.accepted_bounded c.requires.joined_table c.requires.none_value.0 c.requires.none_value.1 in
    let ready = table_ready c.requires.accepted_bounded c.requires.joined_table c.requires.none_value.0 c.requires.none_value.1 in
    (omega arith, (omega arith, omega (arith, c.go_on.auto.flow, ready.rows.flow_long)))

pub returns : goal.returns
returns c =
    table_tells c.requires.accepted_bounded c.requires.joined_table c.requires.none_value.0 c.requires.none_value.1 c.go_on.ensures c.all_full.result c.all_full.ensures
