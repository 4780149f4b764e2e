-- `first_fault` meets its contract: the first fault of all arcs is the first fault of those from `place` on.
use Rattle.table.specs.Table.{table_in}
use Rattle.table.specs.Checks.{first_fault}
use mathlib.Core.Path.{◌≡◌}
use lib.ListN.{drop}
use Rattle.table.proofs.first_fault.Given as goal

abbrev pub invariant-loop-place : goal.invariant-loop-place
invariant-loop-place l =
    let t = table_in l.table in
    first_fault t.nodes 0 t.tails t.heads t.capacities ≡ first_fault t.nodes l.place (drop l.place t.tails) (drop l.place t.heads) (drop l.place t.capacities)
