-- `judge_lines` meets its contract: judging all lines is judging those from `start` on with what was said so far.
use Prim.Native.Nat.{◌+◌, ◌-◌, ◌≤◌}
use mathlib.Core.Path.{◌≡◌}
use lib.ListN.{length, drop}
use Rattle.std.specs.Prelude.{None}
use Rattle.scan.specs.Parts.{lines}
use Rattle.amounts.specs.Lines.{judge}
use Rattle.amounts.proofs.judge_lines.Given as goal

abbrev pub invariant-loop-start : goal.invariant-loop-start
invariant-loop-start l = (l.start ≤ length l.text + 1) × (l.line ≤ l.start + 1) × (judge (lines l.text) None 1 ≡ judge (lines (drop l.start l.text)) l.said l.line)

abbrev pub decreases-loop-start : goal.decreases-loop-start
decreases-loop-start l = length l.text - l.start
