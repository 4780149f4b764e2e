-- `visit` meets its contract. The loop's invariant: what was done so far is `look_to` over the first places of the list, with as many more noted as are fewer unmarked.
use mathlib.Core.Path.{◌≡◌}
use Rattle.table.specs.Table.{table_in}
use Rattle.reach.specs.Noted.{front_of}
use Rattle.reach.specs.Visits.{look_to}
use Rattle.reach.proofs.Visiting.{Moved}
use Rattle.reach.proofs.visit.Given as goal

abbrev pub invariant-loop-k : goal.invariant-loop-k
invariant-loop-k l =
    Moved (front_of l.initial.side l.initial.noted) (front_of l.side l.noted)
    × (front_of l.side l.noted ≡ look_to (table_in l.table) l.flow l.i l.list l.k-index (front_of l.initial.side l.initial.noted))
