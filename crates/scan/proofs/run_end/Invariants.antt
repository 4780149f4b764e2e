-- `run_end` meets its contract: the bytes at the front from `from` on are those passed and those from `at` on.
use Prim.Native.Nat.{◌+◌, ◌≤◌, max}
use mathlib.Core.Path.{◌≡◌}
use lib.ListN.{length, drop}
use Rattle.scan.specs.Parts.{front}
use Rattle.scan.proofs.run_end.Given as goal

abbrev pub invariant-loop-at : goal.invariant-loop-at
invariant-loop-at l = (l.at ≤ max l.from (length l.line)) × (l.from + front l.are (drop l.from l.line) ≡ l.at + front l.are (drop l.at l.line))
