-- `put_numbers` meets its contract: all but the numbers from here on are written.
use Rattle.pen.proofs.Writing.{Partly}
use Rattle.pen.specs.Printed.{spaced}
use lib.ListN.{drop}
use mathlib.Core.Bool.{false}
use Rattle.pen.proofs.put_numbers.Given as goal

abbrev pub invariant-loop-number : goal.invariant-loop-number
invariant-loop-number l = Partly l.initial.out l.at (spaced false l.numbers) (spaced l.some (drop l.number-index l.numbers)) l.out l.place
