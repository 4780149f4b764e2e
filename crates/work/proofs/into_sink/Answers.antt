-- `into_sink` meets its contract: it is the value of the table with tails and heads exchanged, from the sink.
use mathlib.Core.Path.{sym, ◌∙◌}
use Rattle.start.proofs.Scaling.{value_is}
use Rattle.until.proofs.Gains.{exchanged}
use Rattle.work.proofs.into_sink.Goals as goal

pub returns : goal.returns
returns c =
    let table = c.args.table.now in
    let rows = c.requires.accepted.0.rows in
    rw (c.sum_at.ensures, c.sum_at-2.ensures)
    (value_is table.nodes table.sink table.nodes table.heads.now table.tails.now table.capacities.now c.args.flow.now
    (rows.capacities_long ∙ sym rows.ends.heads_long) (sym rows.ends.heads_long)
    ∙ exchanged table.nodes table.source table.sink table.nodes table.tails.now table.heads.now table.capacities.now c.args.flow.now)
