-- `sum_at` meets its contract. The invariant: `sum` is the sum over the places below k.
use Rattle.start.specs.Sums.{sum_at}
use mathlib.Core.Path.{◌≡◌}
use Prim.Native.Nat.{◌≤◌, ◌*◌}
use Rattle.start.proofs.sum_at.Given as goal

abbrev pub invariant-loop-k : goal.invariant-loop-k
invariant-loop-k l = (l.sum ≡ sum_at l.ends l.flow l.i l.k) × (l.sum ≤ 4294967296 * l.k)
