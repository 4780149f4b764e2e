-- `put_number` meets its contract: the digits of n are those of n / 10 and the last one.
use Rattle.pen.proofs.Writing.{wrote_then}
use Rattle.pen.proofs.Digits.{printed_small, printed_large}
use Rattle.pen.proofs.+put_number.Goals as goal

pub returns-then-n-lt10 : goal.returns-then-n-lt10
returns-then-n-lt10 t c = rw (printed_small c.args.n c.if-n-lt10.true) c.put.ensures

pub returns-else-n-lt10 : goal.returns-else-n-lt10
returns-else-n-lt10 t c = rw (printed_large c.args.n c.if-n-lt10.false c.ranges.n.fits) (wrote_then c.put_number-place.ensures c.put-else-n-lt10.ensures)
