-- `take_amounts` meets its contract: the amounts of the lines before `at` are in the rows, and those of the others are left.
use Prim.Native.Nat.{ℕ, ◌+◌, ◌*◌, ◌-◌, ◌≤◌}
use mathlib.Core.Path.{◌≡◌}
use lib.Dec.{eqb}
use lib.ListN.{length}
use Rattle.pairs.specs.Places.{Places}
use Rattle.plan.specs.Rows.{Rows, AtMost}
use Rattle.plan.proofs.Amounts.{amounts_from, Balance, Pairs}
use Rattle.plan.proofs.take_amounts.Given as goal

abbrev pub invariant-loop-at : goal.invariant-loop-at
invariant-loop-at l =
    Rows l.n (length l.heads) l.room l.out l.into × (l.at ≤ length l.text + 1) × AtMost (l.at * 4294967296) l.out × AtMost (l.at * 4294967296) l.into
    × Balance l.n (λ i x. eqb x.tail i) l.out (amounts_from l.text 0) (amounts_from l.text l.at)
    × Balance l.n (λ i x. eqb x.head i) l.into (amounts_from l.text 0) (amounts_from l.text l.at)
    × ((place : ℕ → ℕ → ℕ) → Places l.n l.heads l.first l.next place → Pairs place l.initial.room l.room (amounts_from l.text 0) (amounts_from l.text l.at) l.fits)
    × (length l.room ≡ length l.initial.room)

abbrev pub decreases-loop-at : goal.decreases-loop-at
decreases-loop-at l = length l.text - l.at
