use mathlib.Core.Path.{◌≡◌}
use lib.ListN.{drop}
use Rattle.solution.specs.Writing.{first_above}
use Rattle.solution.proofs.first_above.Given as goal

abbrev pub invariant-loop-place : goal.invariant-loop-place
invariant-loop-place l = (first_above 0 l.capacities l.flow ≡ first_above l.place (drop l.place l.capacities) (drop l.place l.flow))
