-- `put_marked` meets its contract: all but the marked nodes from here on are written.
use Rattle.pen.proofs.Writing.{Partly}
use Rattle.pen.specs.Printed.{spaced}
use Rattle.report.specs.Printed.{marked_nodes}
use lib.ListN.{drop}
use mathlib.Core.Bool.{false}
use Prim.Native.Nat.{◌+◌}
use Rattle.report.proofs.put_marked.Given as goal

abbrev pub invariant-loop-i : goal.invariant-loop-i
invariant-loop-i l = Partly l.initial.out l.at (spaced false (marked_nodes 1 l.side)) (spaced l.some (marked_nodes (l.i + 1) (drop l.i l.side))) l.out l.place
