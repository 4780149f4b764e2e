-- `list_table` meets its contract: handing over what was solved in rows of the call's own is listing the table.
use Rattle.chains.proofs.Handing.{handed_listing}
use Rattle.table.specs.Table.{table_of, table_in}
use native.Mathlib.Omega.{arith}
use mathlib.Core.Path.{sym}
use Rattle.chains.proofs.list_table.Goals as goal

pub solve_table-answer-requires : goal.solve_table-answer-requires
solve_table-answer-requires c = record {
  accepted = c.requires.accepted;
  given_room = (omega (arith, c.requires.accepted.rows.ends.few_arcs, c.requires.accepted.rows.capacities_long), omega (arith, c.requires.accepted.rows.ends.few_nodes), omega (arith, c.requires.accepted.rows.ends.few_arcs, c.requires.accepted.rows.capacities_long, c.requires.accepted.rows.ends.few_nodes));
}

pub list_solved-requires : goal.list_solved-requires
list_solved-requires c =
    let rows = c.requires.accepted.rows in record {
      arc_ends = (rows.ends, c.requires.accepted.source, omega (arith, rows.ends.few_arcs), omega (arith, rows.ends.few_nodes));
      given_room = (omega (arith, rows.capacities_long, c.requires.given_room.0), c.requires.given_room.1, omega (arith, rows.capacities_long, c.requires.given_room.2));
    }

pub returns : goal.returns
returns c =
    let given = c.args in
    handed_listing (table_in given.table.now) c.requires.accepted
    given.stamp given.flow.now given.side.now given.work.now given.list.now _ _ _ _ _ _ _ c.solve_table-answer.ensures _ (sym c.requires.accepted.rows.capacities_long) _ c.list_solved.ensures
