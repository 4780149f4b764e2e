-- `print_answer` meets its contract: what was written ends within the row.
use Rattle.pen.proofs.Writing.{wrote_within}
use lib.Seq.{length-take-le}
use mathlib.Core.Path.{sym}
use Rattle.clerk.proofs.print_answer.Goals as goal

pub slice_bounds-print-end : goal.slice_bounds-print-end
slice_bounds-print-end g c = sym (length-take-le _ _ (wrote_within c.serve-wrote.ensures.wrote))
