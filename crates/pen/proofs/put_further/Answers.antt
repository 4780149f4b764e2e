-- `put_further` meets its contract: with or without the blank.
use Rattle.pen.proofs.Writing.{wrote_then}
use Rattle.pen.proofs.put_further.Goals as goal

pub returns-then-some : goal.returns-then-some
returns-then-some c =
    rw c.if-some.true (wrote_then c.put-place.ensures c.put_number.ensures)
