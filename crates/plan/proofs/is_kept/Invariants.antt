-- `is_kept` meets its contract: as much goes into each node before `at` as out of it.
use Prim.Native.Nat.{◌-◌}
use mathlib.Core.Bool.{true}
use Rattle.plan.specs.Rows.{IsKept}
use Rattle.plan.proofs.is_kept.Given as goal

abbrev pub invariant-loop-i : goal.invariant-loop-i
invariant-loop-i l = IsKept (l.i - 1) l.s l.t l.out l.into true
