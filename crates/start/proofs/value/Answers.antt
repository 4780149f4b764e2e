-- `value` meets its contract: the two sums.
use Rattle.start.proofs.Scaling.{value_is}
use Rattle.start.proofs.value.Goals as goal

pub returns : goal.returns
returns c n t capacities e =
    let table = c.args.table.now in
    rw (c.sum_at-2.ensures, c.sum_at.ensures)
    (value_is n table.source t table.tails.now table.heads.now capacities c.args.flow.now e c.requires.heads_len.0)
