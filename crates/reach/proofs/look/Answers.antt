-- `look` meets its contract: the arc away from its tail, or from its head.
use Rattle.table.specs.Table.{table_in}
use Rattle.reach.proofs.Visiting.{look_ahead, look_behind}
use Rattle.reach.proofs.look.Goals as goal

pub returns-then-tail-i : goal.returns-then-tail-i
returns-then-tail-i c =
    let args = c.args in
    look_ahead (table_in args.table.now) args.flow.now args.i args.k _ c.if-tail-i.true c.note.ensures

pub returns-else-tail-i : goal.returns-else-tail-i
returns-else-tail-i c =
    let args = c.args in
    look_behind (table_in args.table.now) args.flow.now args.i args.k _ c.if-tail-i.false c.note-else-tail-i.ensures
