-- `sums_fit` meets its contract: the rows hold what the text gives, and the tests decide.
use Rattle.scan.specs.Parts.{lines}
use Rattle.table.specs.Table.{Table, table_of, table_in}
use Rattle.amounts.specs.Lines.{amounts_of}
use Rattle.plan.proofs.Deciding.{zeros_length, zeros_row, sums_uneven}
use Rattle.plan.proofs.sums_fit.Goals as goal

pub take_text-requires : goal.take_text-requires
take_text-requires c = record {
  arc_rows = (c.requires.0.rows, c.requires.1);
  out_len = (zeros_length 512, zeros_length 512, zeros_row 512, zeros_row 512);
}

pub returns-else-is_kept : goal.returns-else-is_kept
returns-else-is_kept c =
    let table : Table = let a = c.args in table_in a.table.now in
    let a = c.args in
    sums_uneven table a.value (amounts_of (lines a.text.now)) c.take_text.new.out c.take_text.new.into c.take_text.ensures.outs c.take_text.ensures.intos c.is_kept.result c.is_kept.ensures c.if-is_kept.false
