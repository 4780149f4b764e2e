-- `start_flow` meets its contract. The invariant: the first k places are filled, the others as they were.
use Rattle.table.specs.Table.{table_in}
use Rattle.run.specs.Start.{start_flow_at}
use Rattle.rows.specs.Row.{by_place}
use lib.ListN.{drop}
use mathlib.Core.List.{◌++◌}
use mathlib.Core.Path.{◌≡◌}
use Rattle.start.proofs.start_flow.Given as goal

abbrev pub invariant-loop-k : goal.invariant-loop-k
invariant-loop-k l =
    l.flow ≡ by_place (start_flow_at (table_in l.table)) l.k ++ drop l.k l.initial.flow
