-- `put_front` meets its contract: five texts, one behind the other.
use Rattle.pen.proofs.Writing.{wrote_then}
use Rattle.wording.specs.Text.{flow_front}
use Rattle.solution.proofs.put_front.Goals as goal

pub returns : goal.returns
unfolding flow_front
returns c = rw (← c.from.ensures, ← c.from-2.ensures)
    (wrote_then c.put_bytes-ends.ensures
    (wrote_then c.put_number-between.ensures
    (wrote_then c.put-second.ensures (wrote_then c.put_number-behind.ensures c.put.ensures))))
