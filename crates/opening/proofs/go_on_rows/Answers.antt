-- `go_on_rows` meets its contract: chains are filled, then the value, the side and the cleared work row.
use Rattle.std.proofs.Common.{◌≡◌, ℕ, ◌≤◌, List, length, arith}
use Rattle.table.specs.Table.{Table, arcs, network_of, table_in}
use Rattle.table.specs.Accepted.{Accepted}
use Rattle.start.specs.Sums.{sum_at}
use Rattle.shortest.specs.Augment.{settled}
use Rattle.opening.proofs.Going.{ready_rows, gone_row, last_sums, went_rows}
use Rattle.opening.proofs.go_on_rows.Goals as goal

pub go_on-requires : goal.go_on-requires
go_on-requires c =
    let table : Table = table_in c.args.bounded.now.table in
    let accepted : Accepted table = c.requires.accepted in
    record {
      ready = ready_rows table accepted c.args.bounded.now.minimums.now c.args.flow.now c.requires.minimums_value c.requires.flow_len.0 c.requires.flow;
      in_work = c.requires.in_work;
    }

pub value-value-requires : goal.value-value-requires
value-value-requires c =
    let table : Table = table_in c.args.bounded.now.table in
    let accepted : Accepted table = c.requires.accepted in
    let flow : List ℕ = c.go_on.new.flow in
    let is_last : flow ≡ settled (network_of table) c.args.flow.now = gone_row table accepted c.args.bounded.now.minimums.now c.args.flow.now c.requires.minimums_value c.go_on.ensures in
    let sums : (length flow ≡ arcs table) × (sum_at c.args.bounded.now.table.heads.now flow c.args.bounded.now.table.source (length c.args.bounded.now.table.heads.now) ≤ sum_at c.args.bounded.now.table.tails.now flow c.args.bounded.now.table.source (length c.args.bounded.now.table.tails.now)) = last_sums table accepted c.args.flow.now c.requires.flow_len.0 c.requires.flow is_last in
    let rows = accepted.rows in record {
      heads_len = (rows.ends.heads_long, omega (arith, rows.capacities_long, sums.0), rows.ends.few_arcs);
      heads_bound = sums.1;
    }

pub mark-requires : goal.mark-requires
mark-requires c =
    let table : Table = table_in c.args.bounded.now.table in
    let accepted : Accepted table = c.requires.accepted in
    let flow : List ℕ = c.go_on.new.flow in
    let is_last : flow ≡ settled (network_of table) c.args.flow.now = gone_row table accepted c.args.bounded.now.minimums.now c.args.flow.now c.requires.minimums_value c.go_on.ensures in
    let sums : (length flow ≡ arcs table) × (sum_at c.args.bounded.now.table.heads.now flow c.args.bounded.now.table.source (length c.args.bounded.now.table.heads.now) ≤ sum_at c.args.bounded.now.table.tails.now flow c.args.bounded.now.table.source (length c.args.bounded.now.table.tails.now)) = last_sums table accepted c.args.flow.now c.requires.flow_len.0 c.requires.flow is_last in
    record {
      arc_rows = (accepted.rows, omega (arith, sums.0), accepted.source);
      by_index = (_, _, c.requires.in_work);
      n_in_bounds = c.requires.flow_len.1;
    }

pub work_need-requires : goal.work_need-requires
work_need-requires c =
    let table : Table = table_in c.args.bounded.now.table in
    let accepted : Accepted table = c.requires.accepted in
    omega (arith, accepted.rows.ends.few_arcs, accepted.rows.capacities_long)

pub clear-requires : goal.clear-requires
clear-requires c = omega (arith, c.work_need.ensures, c.requires.flow_len.2)

pub returns : goal.returns
returns c =
    let table : Table = table_in c.args.bounded.now.table in
    let accepted : Accepted table = c.requires.accepted in
    let flow : List ℕ = c.go_on.new.flow in
    let is_last : flow ≡ settled (network_of table) c.args.flow.now = gone_row table accepted c.args.bounded.now.minimums.now c.args.flow.now c.requires.minimums_value c.go_on.ensures in
    went_rows table c.args.stamp c.args.flow.now c.args.side.now c.args.work.now c.value-value.result c.work_need.result c.answer_of.result
    flow c.mark.new.side c.clear.new.row
    c.requires.flow_len.0 is_last
    (c.value-value.ensures _ _ _ accepted.rows.capacities_long)
    (c.mark.ensures _)
    c.clear.ensures
    c.work_need.ensures
    c.answer_of.ensures
