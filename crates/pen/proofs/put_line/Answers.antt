-- `put_line` meets its contract: three texts, one behind the other.
use Rattle.pen.proofs.Writing.{wrote_then}
use Rattle.pen.proofs.put_line.Goals as goal

pub returns : goal.returns
returns c =
    wrote_then c.put_bytes-number.ensures (wrote_then c.put_number-end.ensures c.put.ensures)
