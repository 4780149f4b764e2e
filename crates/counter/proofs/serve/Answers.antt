-- `serve` meets its contract: a text that is too long, each refusal of the reader, and a table that was read and solved is one case of `DeskText`.
use mathlib.Core.Path.{sym}
use lib.Seq.{length-take-le}
use borrow.Author.Rules.{rules}
use Rattle.counter.proofs.Printing.{prints_long, prints_refusal, prints_table, table_passes, few}
use Rattle.counter.proofs.Serving.{served}
use Rattle.counter.proofs.serve.Goals as goal

pub returns-then-text-gt65536 : goal.returns-then-text-gt65536
returns-then-text-gt65536 c =
    served c.args.text.now (prints_long c.args.text.now c.if-text-gt65536.true c.at.ensures) c.write_refused.ensures

pub slice_bounds-tails-end : goal.slice_bounds-tails-end
slice_bounds-tails-end c =
    search (rules, few c.args.text.now c.if-text-gt65536.false c.read.ensures.gives c.in-Ok.is)

pub slice_bounds-bounded-end : goal.slice_bounds-bounded-end
slice_bounds-bounded-end c =
    sym (length-take-le _ _ (search (rules, few c.args.text.now c.if-text-gt65536.false c.read.ensures.gives c.in-Ok.is)))

pub slice_bounds-heads-end : goal.slice_bounds-heads-end
slice_bounds-heads-end c =
    search (rules, few c.args.text.now c.if-text-gt65536.false c.read.ensures.gives c.in-Ok.is)

pub slice_bounds-bounded-end-in-Ok : goal.slice_bounds-bounded-end-in-Ok
slice_bounds-bounded-end-in-Ok c =
    sym (length-take-le _ _ (search (rules, few c.args.text.now c.if-text-gt65536.false c.read.ensures.gives c.in-Ok.is)))

pub slice_bounds-capacities-end : goal.slice_bounds-capacities-end
slice_bounds-capacities-end c =
    search (rules, few c.args.text.now c.if-text-gt65536.false c.read.ensures.gives c.in-Ok.is)

pub slice_bounds-bounded-end-in-Ok-2 : goal.slice_bounds-bounded-end-in-Ok-2
slice_bounds-bounded-end-in-Ok-2 c =
    sym (length-take-le _ _ (search (rules, few c.args.text.now c.if-text-gt65536.false c.read.ensures.gives c.in-Ok.is)))

pub slice_bounds-minimums-end : goal.slice_bounds-minimums-end
slice_bounds-minimums-end c =
    search (rules, few c.args.text.now c.if-text-gt65536.false c.read.ensures.gives c.in-Ok.is)

pub slice_bounds-bounded-end-in-Ok-3 : goal.slice_bounds-bounded-end-in-Ok-3
slice_bounds-bounded-end-in-Ok-3 c =
    sym (length-take-le _ _ (search (rules, few c.args.text.now c.if-text-gt65536.false c.read.ensures.gives c.in-Ok.is)))

pub serve_table-requires : goal.serve_table-requires
serve_table-requires c =
    let holds = c.read.ensures in
    table_passes c.args.text.now c.if-text-gt65536.false holds.gives c.in-Ok.is _ _ _ _ _ _ _ _ holds.tails_hold holds.heads_hold holds.capacities_hold holds.minimums_hold

pub returns-in-Err : goal.returns-in-Err
returns-in-Err c =
    served c.args.text.now (prints_refusal c.args.text.now c.if-text-gt65536.false c.read.ensures.gives c.in-Err.is) c.write_refused-in-Err.ensures

pub returns-in-Ok : goal.returns-in-Ok
returns-in-Ok c =
    let holds = c.read.ensures in
    served c.args.text.now
    (prints_table c.args.text.now c.if-text-gt65536.false holds.gives c.in-Ok.is _ _ _ _ _ _ _ _ holds.tails_hold holds.heads_hold holds.capacities_hold holds.minimums_hold c.serve_table.ensures.may)
    c.serve_table.ensures.wrote
