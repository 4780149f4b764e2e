-- `least_left` meets its contract. The invariant: the least amount is that of `least` and of the places from number k-index on.
use lib.ListN.{drop}
use mathlib.Core.Path.{◌≡◌}
use Rattle.pieces.specs.Chains.{least, least_of}
use Rattle.walks.proofs.least_left.Given as goal

abbrev pub invariant-loop-k : goal.invariant-loop-k
invariant-loop-k l = least l.left l.places ≡ least_of l.left (drop l.k-index l.rest) l.least
