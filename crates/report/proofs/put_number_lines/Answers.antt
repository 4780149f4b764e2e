-- `put_number_lines` meets its contract: eight lines, one behind the other.
use Rattle.report.specs.Printed.{number_lines}
use Rattle.pen.proofs.Writing.{wrote_then}
use Rattle.report.proofs.put_number_lines.Goals as goal

pub returns : goal.returns
unfolding number_lines
returns c =
    wrote_then c.put_line-arcs.ensures
    (wrote_then c.put_line-value.ensures
    (wrote_then c.put_signed_line-scale.ensures
    (wrote_then c.put_line-phases.ensures
    (wrote_then c.put_line-saturating.ensures (wrote_then c.put_line-nonsaturating.ensures (wrote_then c.put_line-relabels.ensures c.put_line.ensures))))))
