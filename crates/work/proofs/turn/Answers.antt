-- `turn` meets its contract: the step, what it brought to the sink, and the next choice.
use Rattle.table.specs.Table.{Table, table_in}
use Rattle.run.specs.Phase.{Run}
use Rattle.arcs.specs.Work.{looked_part}
use Rattle.work.specs.Held.{run_in}
use Rattle.work.proofs.Advancing.{ready_after}
use Rattle.work.proofs.turn.Goals as goal

pub next_choice-next-requires-clause-node : goal.next_choice-next-requires-clause-node
next_choice-next-requires-clause-node c =
    let table : Table = table_in c.args.table.now in
    let first : Run = run_in c.args.table.now.nodes c.args.flow.now c.args.work.now c.args.tally.counts in
    let after : Run = run_in c.args.table.now.nodes c.step-done.new.flow c.step-done.new.work c.step-done.result.counts in
    let stepped = c.step-done.ensures.fact_2 in (
      c.requires.fact.1,
      stepped.other_node,
      ready_after table c.args.delta first c.args.i after (looked_part c.args.table.now.nodes c.step-done.new.work) c.args.tree.now c.step-done.result.other stepped c.requires.fact_2.1.chose,
    )
