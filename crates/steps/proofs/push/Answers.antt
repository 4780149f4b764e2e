-- `push` meets its contract: the amount, then the flow row, then the excess row.
use Rattle.run.specs.Rows.{state_of}
use Rattle.table.specs.Table.{table_of}
use Rattle.steps.proofs.Moving.{push_sends, push_shifts, pushed}
use mathlib.Core.List.{[]}
use lib.ListN.{length}
use native.Mathlib.Omega.{arith}
use Rattle.steps.proofs.push.Goals as goal

pub send-requires : goal.send-requires
send-requires c =
    let given = c.args in
    let table = given.table.now in
    let sends =
    push_sends table.tails.now c.requires.by_index.0 table.capacities.now given.flow.now given.excess.now table.source table.sink given.delta given.i given.k
    c.amount-d.result c.requires.by_index.1 c.requires.within_capacities.0 c.requires.within_capacities.2
    (c.amount-d.ensures (length given.excess.now) table.source table.sink c.requires.by_index.0 [] c.requires.by_index.2) in record {
      k_in_bounds = (omega (arith, c.requires.within_capacities.2, c.requires.by_index.1.capacities_long), omega (arith, c.requires.within_capacities.2, c.requires.within_capacities.0.room));
      d_bound = sends.0;
      d_bound_2 = sends.1;
    }

pub shift-requires-clause-d_bound : goal.shift-requires-clause-d_bound
shift-requires-clause-d_bound c =
    let given = c.args in
    let table = given.table.now in
    let fits =
    push_shifts table.tails.now c.requires.by_index.0 table.capacities.now given.flow.now given.excess.now table.source table.sink given.delta given.i given.k
    c.amount-d.result c.requires.by_index.1 c.requires.within_capacities.0 c.requires.within_capacities.2
    (c.amount-d.ensures (length given.excess.now) table.source table.sink c.requires.by_index.0 [] c.requires.by_index.2) given.j c.requires.by_index.2
    c.requires.within_capacities.1 c.requires.at_most.1 in
    fits.1.1

pub returns : goal.returns
returns c n heads label is =
    let given = c.args in
    let table = given.table.now in
    pushed (table_of n table.source table.sink table.tails.now heads table.capacities.now) given.delta (state_of given.flow.now given.excess.now label)
    given.i given.k c.amount-d.result given.j c.residual-left.result c.send.new.flow c.shift.new.excess
    (c.amount-d.ensures n table.source table.sink heads label is) is (c.residual-left.ensures n table.source table.sink heads)
    (c.send.ensures n table.source table.sink heads table.capacities.now) (c.shift.ensures n table.tails.now heads table.capacities.now)
