-- `read_whole` meets its contract: each read that goes on fills the row further, and never beyond its end.
use Rattle.std.proofs.Common.{◌≤◌, ◌-◌, length}
use Rattle.clerk.proofs.read_whole.Given as goal

abbrev pub invariant-loop-filled : goal.invariant-loop-filled
invariant-loop-filled g l = l.filled ≤ length l.row

abbrev pub decreases-loop-filled : goal.decreases-loop-filled
decreases-loop-filled g l = length l.initial.row - l.filled
