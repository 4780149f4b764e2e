-- `is_full` meets its contract: the sums do not fit, or they do, and the cut decides.
use Rattle.scan.specs.Parts.{lines}
use Rattle.table.specs.Table.{table_of, table_in}
use Rattle.amounts.specs.Lines.{amounts_of}
use Rattle.plan.proofs.Deciding.{full_unfit, full_decides}
use Rattle.plan.proofs.is_full.Goals as goal

pub returns-then-sums_fit : goal.returns-then-sums_fit
returns-then-sums_fit c = let a = c.args in
    full_decides (table_in a.table.now) c.requires.0 a.value (amounts_of (lines a.text.now)) a.side.now c.sums_fit.result c.cut_fits.result c.sums_fit.ensures c.if-sums_fit.true c.cut_fits.ensures

pub returns-else-sums_fit : goal.returns-else-sums_fit
returns-else-sums_fit c = let a = c.args in
    full_unfit (table_in a.table.now) c.requires.0 a.value (amounts_of (lines a.text.now)) a.side.now c.sums_fit.result c.sums_fit.ensures c.if-sums_fit.false
