-- `field` meets its contract: the field behind `passed` of them stands from `start` to `stop`.
use Prim.Native.Nat.{◌+◌, ◌-◌, ◌≤◌}
use mathlib.Core.Path.{◌≡◌}
use lib.ListN.{length, take, drop}
use Rattle.scan.specs.Fields.{field_at}
use Rattle.scan.proofs.Fielding.{Passed}
use Rattle.scan.proofs.field.Given as goal

abbrev pub invariant-loop-passed : goal.invariant-loop-passed
invariant-loop-passed l =
    (l.end ≡ length l.line) × (l.start ≤ l.stop) × Passed l.line l.stop (l._passed + 1) × (take (l.stop - l.start) (drop l.start l.line) ≡ field_at l.line l._passed)
