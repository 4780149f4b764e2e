-- `put_number` meets its contract: the digits of n are those of n / 10 and the last one. The measure is n.
use Rattle.pen.proofs.+put_number.Given as goal

abbrev pub decreases-put_number : goal.decreases-put_number
decreases-put_number l = l.n
