-- `first_fault` meets its contract: the first fault of all arcs is the first fault of those from `place` on.
use Rattle.table.proofs.Faults.{fault_here, fault_later, fault_end}
use mathlib.Core.Path.{refl, sym, ◌∙◌}
use native.Mathlib.Omega.{arith}
use Rattle.table.specs.Table.{Table, table_in}
use lib.ListN.{length}
use Prim.Native.Nat.{◌<◌}
use Rattle.table.proofs.Refusing.{handed_on}
use Rattle.table.proofs.first_fault.Goals as goal

pub returns-in_err-arc_fault : goal.returns-in_err-arc_fault
returns-in_err-arc_fault c =
    let t : Table = table_in c.args.table.now in
    let here : c.loop-place.place < length t.tails = c.loop-place-test.true in
    handed_on c.from_residual.result c.from_residual.ensures.1 (λ y is. is)
    ∙ sym c.in_err-arc_fault.was
    ∙ sym (c.loop-place.invariant
    ∙ fault_here t.nodes c.loop-place.place t.tails t.heads t.capacities here (omega (arith, here, c.requires.1)) (omega (arith, here, c.requires.2))
    {v = c.arc_fault.result} c.arc_fault.ensures (rw c.in_err-arc_fault.was refl))

pub loop-place-preserved : goal.loop-place-preserved
loop-place-preserved c =
    let t : Table = table_in c.args.table.now in
    let here : c.loop-place.place < length t.tails = c.loop-place-test.true in
    c.loop-place.invariant
    ∙ fault_later t.nodes c.loop-place.place t.tails t.heads t.capacities here (omega (arith, here, c.requires.1)) (omega (arith, here, c.requires.2))
    {v = c.arc_fault.result} c.arc_fault.ensures (rw c.in_ok-arc_fault.was refl)

pub returns : goal.returns
returns c =
    let t : Table = table_in c.args.table.now in
    sym (c.loop-place.invariant
    ∙ fault_end t.nodes c.loop-place.place t.tails _ _ c.loop-place-test.false)
