-- `change_verdict` meets its contract: the four refusals in order.
use Rattle.table.specs.Table.{table_of, table_in}
use Rattle.opening.proofs.Verdicts.{change_place, change_capacity, change_lower, change_notmax, change_fine}
use Rattle.opening.proofs.change_verdict.Goals as goal

pub returns-then-table-k : goal.returns-then-table-k
returns-then-table-k c =
    let given = c.args in
    rw c.at.ensures (change_place (table_in given.table.now) given.place given.capacity given.flow.now c.if-table-k.true)

pub returns-then-capacity-gt1000000 : goal.returns-then-capacity-gt1000000
returns-then-capacity-gt1000000 c =
    let given = c.args in
    rw c.at-then-capacity-gt1000000.ensures (change_capacity (table_in given.table.now) given.place given.capacity given.flow.now c.if-table-k.false c.if-capacity-gt1000000.true)

pub returns-then-capacity-table : goal.returns-then-capacity-table
returns-then-capacity-table c =
    let given = c.args in
    rw c.at-then-capacity-table.ensures (change_lower (table_in given.table.now) given.place given.capacity given.flow.now c.if-table-k.false c.if-capacity-gt1000000.false c.if-capacity-table.true)

pub returns-then-not-is_maximum : goal.returns-then-not-is_maximum
returns-then-not-is_maximum c =
    let given = c.args in
    rw c.at-then-not-is_maximum.ensures (change_notmax (table_in given.table.now) given.place given.capacity given.flow.now c.if-table-k.false c.if-capacity-gt1000000.false c.if-capacity-table.false c.is_maximum.ensures c.if-not-is_maximum.true)

pub returns : goal.returns
returns c =
    let given = c.args in
    change_fine (table_in given.table.now) given.place given.capacity given.flow.now c.if-table-k.false c.if-capacity-gt1000000.false c.if-capacity-table.false c.is_maximum.ensures c.if-not-is_maximum.false
