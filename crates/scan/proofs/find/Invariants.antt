-- `find` meets its contract: what stands before the separator from `from` on is what was passed and what stands before it from `at` on.
use Prim.Native.Nat.{◌+◌, ◌≤◌, max}
use mathlib.Core.Path.{◌≡◌}
use lib.ListN.{length, drop}
use Rattle.scan.specs.Parts.{up_to}
use Rattle.scan.proofs.find.Given as goal

abbrev pub invariant-loop-at : goal.invariant-loop-at
invariant-loop-at l = (l.at ≤ max l.from (length l.bytes)) × (l.from + up_to l.sep (drop l.from l.bytes) ≡ l.at + up_to l.sep (drop l.at l.bytes))
