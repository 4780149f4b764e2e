-- `list_passing` meets its contract. The loop's invariant: the numbers below k that pass stand in the row, and are counted.
use Rattle.listing.proofs.Listing.{Gathered}
use Rattle.listing.proofs.list_passing.Given as goal

abbrev pub invariant-loop-k : goal.invariant-loop-k
invariant-loop-k g l = Gathered g.test l.k l.count l.row l.initial.row
