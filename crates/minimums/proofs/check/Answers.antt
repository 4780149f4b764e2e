-- `check` meets its contract: what three rows are refused for, then what four are.
use mathlib.Core.Path.{refl}
use Rattle.table.specs.Table.{table_in}
use Rattle.minimums.proofs.check.Goals as goal

pub with_minimums-requires : goal.with_minimums-requires
with_minimums-requires c = (table_in c.args.bounded.now.table, c.args.room, refl, refl, c.check-found.ensures)

pub returns : goal.returns
returns c = c.with_minimums.ensures (table_in c.args.bounded.now.table) c.args.room refl refl c.check-found.ensures
