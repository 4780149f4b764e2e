use Prim.Native.Nat.{◌+◌, ◌*◌, ◌≤◌}
use mathlib.Core.Path.{◌≡◌}
use lib.ListN.{length, drop}
use Rattle.wording.specs.Text.{flow_lines}
use Rattle.solution.proofs.lines_length.Given as goal

abbrev pub invariant-loop-place : goal.invariant-loop-place
invariant-loop-place l =
    (l.length ≤ 65 * l.place)
    × (length (flow_lines l.tails l.heads l.flow) ≡ l.length + length (flow_lines (drop l.place l.tails) (drop l.place l.heads) (drop l.place l.flow)))
