-- `judge_lines` meets its contract: judging all lines is judging those from `start` on with the progress so far.
use Prim.Native.Nat.{◌+◌, ◌-◌, ◌≤◌}
use mathlib.Core.Path.{◌≡◌}
use lib.ListN.{length, drop}
use Rattle.scan.specs.Parts.{lines}
use Rattle.text.specs.Lines.{judge, fresh}
use Rattle.text.proofs.judge_lines.Given as goal

abbrev pub invariant-loop-start : goal.invariant-loop-start
invariant-loop-start l = (l.start ≤ length l.text + 1) × (l.place ≤ l.start + 1) × (judge (lines l.text) fresh 1 ≡ judge (lines (drop l.start l.text)) l.p l.place)

abbrev pub decreases-loop-start : goal.decreases-loop-start
decreases-loop-start l = length l.text - l.start
