-- `write_solved` meets its contract: six texts, one behind the other.
use Rattle.pen.proofs.Writing.{wrote_then}
use Rattle.report.specs.Printed.{solved_text}
use Rattle.report.proofs.write_solved.Goals as goal

pub returns : goal.returns
unfolding solved_text
returns c =
    wrote_then c.put_number_lines-lists.ensures
    (wrote_then c.put_bytes-marks.ensures
    (wrote_then c.put_marked-marked.ensures
    (wrote_then c.put_bytes-flows.ensures (wrote_then c.put_numbers-end.ensures c.put.ensures))))
