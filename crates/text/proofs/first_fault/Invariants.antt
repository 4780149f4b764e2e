-- `first_fault` meets its contract: the first fault of all arcs is the first fault of those that are left.
use Prim.Native.Nat.{◌+◌}
use mathlib.Core.Path.{◌≡◌}
use lib.ListN.{length}
use Rattle.scan.specs.Parts.{lines}
use Rattle.text.specs.Lines.{arcs_of}
use Rattle.text.specs.Arcs.{arcs_left, fault_from}
use Rattle.text.proofs.first_fault.Given as goal

abbrev pub invariant-loop-place : goal.invariant-loop-place
invariant-loop-place l =
    let left = arcs_left l.place-iterator.iter in
    (l.place-iterator.count + length left ≡ l.header.arcs) × (fault_from l.header.nodes 0 (arcs_of (lines l.text)) ≡ fault_from l.header.nodes l.place-iterator.count left)
