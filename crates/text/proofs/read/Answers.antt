-- `read` meets its contract: each outcome gives its `Reads`.
use mathlib.Core.Path.{sym, ◌∙◌}
use Rattle.table.proofs.Refusing.{handed_on}
use Rattle.text.proofs.Counting.{accepted_count}
use Rattle.text.proofs.Answering.{reads_long, reads_fault, Checked, reads_refused, rows_have_room, reads_table}
use Rattle.text.proofs.read.Goals as goal

pub returns-then-text-gt1048576 : goal.returns-then-text-gt1048576
returns-then-text-gt1048576 c = rw c.at.ensures (reads_long _ _ _ _ _ c.if-text-gt1048576.true)

pub returns-in_err-header : goal.returns-in_err-header
returns-in_err-header c =
    rw (handed_on c.from_residual.result c.from_residual.ensures.1 (λ y is. is))
    (reads_fault _ _ _ _ _ c.if-text-gt1048576.false (sym c.judge_lines.ensures ∙ c.in_err-header.was))

pub table_verdict-requires : goal.table_verdict-requires
table_verdict-requires c =
    (c.if-text-gt1048576.false, accepted_count _ _ (sym c.judge_lines.ensures ∙ c.in_ok-header.was))

pub returns-in_err-table_verdict : goal.returns-in_err-table_verdict
returns-in_err-table_verdict c =
    let found : let a = c.args in Checked a.text.now a.tails.now a.heads.now a.capacities.now a.minimums.now c.in_ok-header.header c.table_verdict.result = record { fits = c.if-text-gt1048576.false; judging = sym c.judge_lines.ensures ∙ c.in_ok-header.was; checking = c.table_verdict.ensures } in
    rw (handed_on c.from_residual-in_err-table_verdict.result c.from_residual-in_err-table_verdict.ensures.1 (λ y is. is))
    (reads_refused found c.in_err-table_verdict.was)

pub write_arcs-requires : goal.write_arcs-requires
write_arcs-requires c =
    let found : let a = c.args in Checked a.text.now a.tails.now a.heads.now a.capacities.now a.minimums.now c.in_ok-header.header c.table_verdict.result = record { fits = c.if-text-gt1048576.false; judging = sym c.judge_lines.ensures ∙ c.in_ok-header.was; checking = c.table_verdict.ensures } in
    rows_have_room found c.in_ok-table_verdict.was

pub returns : goal.returns
returns c =
    let found : let a = c.args in Checked a.text.now a.tails.now a.heads.now a.capacities.now a.minimums.now c.in_ok-header.header c.table_verdict.result = record { fits = c.if-text-gt1048576.false; judging = sym c.judge_lines.ensures ∙ c.in_ok-header.was; checking = c.table_verdict.ensures } in
    reads_table found c.in_ok-table_verdict.was _ _ _ _ c.write_arcs.ensures.tails_value c.write_arcs.ensures.heads_value c.write_arcs.ensures.capacities_value c.write_arcs.ensures.minimums_value
