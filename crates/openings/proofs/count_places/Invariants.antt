-- `count_places` meets its contract. The loop's invariant: the places below k whose arcs would help are counted.
use mathlib.Core.Path.{◌≡◌}
use lib.ListN.{length}
use Rattle.listing.specs.Passing.{passing}
use Rattle.openings.specs.Helping.{helps_from}
use Rattle.openings.proofs.count_places.Given as goal

abbrev pub invariant-loop-k : goal.invariant-loop-k
invariant-loop-k l = l.count ≡ length (passing (helps_from l.side l.drains l.tails l.heads) l.k)
