-- `start_labels` meets its contract. The invariant: the first i places hold the labels, the others as they were.
use Rattle.table.specs.Table.{table_in}
use Rattle.run.specs.Start.{start_label_at}
use Rattle.rows.specs.Row.{by_node}
use lib.ListN.{drop}
use mathlib.Core.List.{◌++◌}
use mathlib.Core.Path.{◌≡◌}
use Rattle.start.proofs.start_labels.Given as goal

abbrev pub invariant-loop-i : goal.invariant-loop-i
invariant-loop-i l =
    l.labels ≡ by_node (start_label_at (table_in l.table)) l.i ++ drop l.i l.initial.labels
