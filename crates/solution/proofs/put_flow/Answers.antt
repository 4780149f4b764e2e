-- `put_flow` meets its contract: three texts, one behind the other.
use Rattle.pen.proofs.Writing.{wrote_then}
use Rattle.solution.proofs.put_flow.Goals as goal

pub returns : goal.returns
returns c = rw (← c.from.ensures) (wrote_then c.put_front-number.ensures (wrote_then c.put_number-end.ensures c.put.ensures))
