-- `follow` meets its contract. The invariant: what the walk finds is what the definition's walk finds from node i on, with the first `count` places behind it.
use mathlib.Core.List.{[]}
use Rattle.pieces.specs.Chains.{walk}
use Rattle.walks.proofs.Going.{Under}
use Rattle.walks.specs.Rows.{Ahead}
use Rattle.walks.proofs.follow.Given as goal

abbrev pub invariant-loop-count : goal.invariant-loop-count
invariant-loop-count l =
    Ahead l.tails l.left l.first × Under l.tails l.heads l.left l.sink l.nodes (walk l.tails l.heads l.sink l.left l.nodes [] l.start) l.walked l.turns l.i l.count
