-- `copy_part` meets its contract. The loop's invariant: the first k numbers stand in front of the row's later places.
use mathlib.Core.List.{◌++◌}
use mathlib.Core.Path.{◌≡◌}
use lib.ListN.{take, drop}
use Rattle.shorter.proofs.copy_part.Given as goal

abbrev pub invariant-loop-k : goal.invariant-loop-k
invariant-loop-k l =
    l.row ≡ take l.k l.numbers ++ drop l.k l.initial.row
