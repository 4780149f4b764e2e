-- `take_away` meets its contract. The invariant: what is left to take away are the places from the next on.
use lib.ListN.{drop}
use mathlib.Core.Path.{◌≡◌}
use Rattle.pieces.specs.Chains.{take_away}
use Rattle.walks.proofs.take_away.Given as goal

abbrev pub invariant-loop-place : goal.invariant-loop-place
invariant-loop-place l = take_away l.amount l.places l.initial.left ≡ take_away l.amount (drop l.place-index l.places) l.left
