-- `join` meets its contract: the invariant: positions from p on are right, and the leaves are as they were.
use Rattle.tournament.proofs.Mending.{LeastFrom}
use Rattle.rows.specs.Row.{at_place}
use mathlib.Core.Path.{◌≡◌}
use Prim.Native.Nat.{ℕ, ◌+◌}
use Rattle.tournament.proofs.join.Given as goal

abbrev pub invariant-loop-p : goal.invariant-loop-p
invariant-loop-p l =
    LeastFrom l.tree l.p × ((j : ℕ) → at_place l.tree (512 + j) ≡ at_place l.initial.tree (512 + j))
