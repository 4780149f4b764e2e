-- `read_flows` meets its contract: what all lines say is what the first `place` said, in the row, and what those from `at` on say.
use lib.ListN.{length, take, drop}
use Prim.Native.Nat.{◌+◌, ◌≤◌}
use mathlib.Core.Path.{◌≡◌}
use Rattle.wording.specs.Lines.{say_first, flows_said}
use Rattle.solution.proofs.read_flows.Given as goal

abbrev pub invariant-loop-place : goal.invariant-loop-place
invariant-loop-place l =
    (l.at ≤ length l.text) × (length l.row ≡ length l.initial.row)
    × (flows_said l.tails l.heads l.capacities 2 (drop l.from l.text) ≡ say_first (take l.place l.row) (flows_said (drop l.place l.tails) (drop l.place l.heads) (drop l.place l.capacities) (l.place + 2) (drop l.at l.text)))
