-- `tally` meets its contract. The invariant: the flows below k are added up.
use Rattle.sums.specs.Tallied.{Tallied}
use Rattle.sums.proofs.tally.Given as goal

abbrev pub invariant-loop-k : goal.invariant-loop-k
invariant-loop-k l = Tallied l.ends l.flow l.k l.sums
