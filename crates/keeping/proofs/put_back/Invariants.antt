-- `put_back` meets its contract. The loop's invariant: the flows below k are put back, and the kept arcs below k are counted.
use mathlib.Core.Path.{◌≡◌}
use lib.ListN.{length, drop}
use mathlib.Core.List.{◌++◌}
use Rattle.rows.specs.Row.{by_place}
use Rattle.listing.specs.Passing.{passing}
use Rattle.shrinking.specs.Smaller.{arc_by, back_by}
use Rattle.keeping.proofs.put_back.Given as goal

abbrev pub invariant-loop-k : goal.invariant-loop-k
invariant-loop-k l =
    (l.count ≡ length (passing (arc_by l.ahead l.behind l.tails l.heads l.capacities) l.k))
    × (l.flow ≡ by_place (back_by (arc_by l.ahead l.behind l.tails l.heads l.capacities) l.flows) l.k ++ drop l.k l.initial.flow)
