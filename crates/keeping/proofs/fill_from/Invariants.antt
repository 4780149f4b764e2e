-- `fill_from` meets its contract. The loop's invariant: the first j numbers stand in the row.
use mathlib.Core.Path.{◌≡◌}
use mathlib.Core.List.{map, ◌++◌}
use lib.ListN.{take, drop}
use Rattle.keeping.proofs.fill_from.Given as goal

abbrev pub invariant-loop-j : goal.invariant-loop-j
invariant-loop-j g l =
    l.row ≡ take l.j (map g.given l.places) ++ drop l.j l.initial.row
