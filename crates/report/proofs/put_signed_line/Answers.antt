-- `put_signed_line` meets its contract: four texts, one behind the other.
use Rattle.pen.proofs.Writing.{wrote_then}
use Rattle.report.proofs.put_signed_line.Goals as goal

pub returns : goal.returns
returns c =
    wrote_then c.put_bytes-sign.ensures (wrote_then c.put_sign-number.ensures (wrote_then c.put_number-end.ensures c.put.ensures))
