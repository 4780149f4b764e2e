-- `serve_accepted` meets its contract: what solving leaves in rows of the call's own is written as bytes.
use Prim.Native.Nat.{ℕ}
use native.Mathlib.Omega.{arith}
use lib.ListN.{length-replicate}
use Rattle.table.specs.Table.{Table, table_of, table_in}
use Rattle.wire.proofs.Serving.{Ready, ready, serves_solved}
use borrow.Author.Rules.{rules}
use Rattle.booking.proofs.serve_accepted.Goals as goal

pub solve_table-answer-requires : goal.solve_table-answer-requires
solve_table-answer-requires c =
    let table : Table = table_in c.args.table.now in
    let good : Ready table c.args.flow.now c.args.side.now c.args.res.now = ready table c.args.flow.now c.args.side.now c.args.res.now c.requires in
    let nodes = good.few_nodes in
    let few = good.few_arcs in record {
      accepted = good.accepted;
      given_room = (omega (arith, length-replicate {A = ℕ} 4096 0), omega (arith, length-replicate {A = ℕ} 512 0), omega (arith, length-replicate {A = ℕ} 10241 0));
    }

pub write_flows-requires : goal.write_flows-requires
write_flows-requires c =
    let table : Table = table_in c.args.table.now in
    let good : Ready table c.args.flow.now c.args.side.now c.args.res.now = ready table c.args.flow.now c.args.side.now c.args.res.now c.requires in
    let few = good.few_arcs in
    (few, search (rules, few), good.for_flow)

pub write_marks-requires : goal.write_marks-requires
write_marks-requires c =
    let table : Table = table_in c.args.table.now in
    let good : Ready table c.args.flow.now c.args.side.now c.args.res.now = ready table c.args.flow.now c.args.side.now c.args.res.now c.requires in
    let nodes = good.few_nodes in
    (search (rules, nodes), good.for_side)

pub write_result-requires : goal.write_result-requires
write_result-requires c =
    let table : Table = table_in c.args.table.now in
    let good : Ready table c.args.flow.now c.args.side.now c.args.res.now = ready table c.args.flow.now c.args.side.now c.args.res.now c.requires in
    good.for_result

pub returns : goal.returns
returns c =
    let table : Table = table_in c.args.table.now in
    let given = c.args in
    serves_solved table given.stamp given.flow.now given.side.now given.res.now c.requires _ _ _
    c.solve_table-answer.ensures c.write_flows.ensures c.write_marks.ensures c.write_result.ensures
