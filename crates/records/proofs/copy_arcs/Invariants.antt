-- `copy_arcs` meets its contract. The loop's invariant: the row is the one that the records so far fill.
use Rattle.std.proofs.Common.{◌≡◌}
use Rattle.records.specs.Columns.{filled}
use Rattle.records.proofs.copy_arcs.Given as goal

abbrev pub invariant-loop-k : goal.invariant-loop-k
invariant-loop-k l = l.row ≡ filled l.arcs l.k
