-- `put_bytes` meets its contract: all but the bytes from here on are written.
use Rattle.pen.proofs.Writing.{Partly}
use lib.ListN.{drop}
use Rattle.pen.proofs.put_bytes.Given as goal

abbrev pub invariant-loop-byte : goal.invariant-loop-byte
invariant-loop-byte l = Partly l.initial.out l.at l.text (drop l.byte-index l.text) l.out l.place
