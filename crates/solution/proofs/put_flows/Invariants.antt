use lib.ListN.{drop}
use Rattle.pen.proofs.Writing.{Partly}
use Rattle.wording.specs.Text.{flow_lines}
use Rattle.solution.proofs.put_flows.Given as goal

abbrev pub invariant-loop-place : goal.invariant-loop-place
invariant-loop-place l = Partly l.initial.out l.at (flow_lines l.tails l.heads l.flow) (flow_lines (drop l.place l.tails) (drop l.place l.heads) (drop l.place l.flow)) l.out l.end
