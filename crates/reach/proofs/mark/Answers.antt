-- `mark` meets its contract: the lists are those of the lent table, and its side is that of any sink.
use Rattle.arcs.proofs.Work.{in_work_ends}
use Rattle.reach.proofs.Side.{side_any}
use Rattle.reach.proofs.mark.Goals as goal

pub mark_all-requires-clause-in_work : goal.mark_all-requires-clause-in_work
mark_all-requires-clause-in_work c =
    let table = c.args.table.now in
    in_work_ends c.requires.by_index.2 table.source table.sink

pub returns : goal.returns
returns c t =
    let table = c.args.table.now in
    rw (c.mark_all.ensures, side_any table.nodes table.source table.sink t table.tails.now table.heads.now table.capacities.now c.args.flow.now)
