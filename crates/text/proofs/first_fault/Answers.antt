-- `first_fault` meets its contract: the first fault of all arcs is the first fault of those that are left.
use Prim.Native.Nat.{◌+◌}
use mathlib.Core.Path.{◌≡◌, refl, sym, ap, ◌∙◌}
use mathlib.Core.List.{◌∷◌}
use native.Mathlib.Omega.{arith}
use lib.ListN.{length}
use borrow.Author.Rules.{rules}
use Rattle.table.proofs.Refusing.{handed_on}
use Rattle.text.specs.Arcs.{arcs_left}
use Rattle.text.proofs.ArcWalk.{fault_none, fault_here, fault_later}
use Rattle.text.proofs.first_fault.Goals as goal

pub loop-place-preserved : goal.loop-place-preserved
loop-place-preserved c =
    let left : arcs_left c.loop-place.place-iterator.iter ≡ c.in-Some.arc ∷ arcs_left c.next.new.self.iter = search rules in
    let here : c.in-Some.place ≡ c.loop-place.place-iterator.count = search rules in
    let next : c.next.new.self.count ≡ c.loop-place.place-iterator.count + 1 = search rules in
    let count = ap length left in (
      omega (arith, c.loop-place.invariant.0, count, next),
      c.loop-place.invariant.1 ∙ rw (next, ← here) (fault_later _ _ left c.arc_fault.ensures (rw c.in_ok-arc_fault.was refl)),
    )

pub returns-in_err-arc_fault : goal.returns-in_err-arc_fault
returns-in_err-arc_fault c =
    let left : arcs_left c.loop-place.place-iterator.iter ≡ c.in-Some.arc ∷ arcs_left c.next.new.self.iter = search rules in
    let here : c.in-Some.place ≡ c.loop-place.place-iterator.count = search rules in
    handed_on c.from_residual.result c.from_residual.ensures.1 (λ y is. is) ∙ sym c.in_err-arc_fault.was
    ∙ sym (c.loop-place.invariant.1 ∙ rw (← here) (fault_here _ _ left c.arc_fault.ensures (rw c.in_err-arc_fault.was refl)))

pub returns : goal.returns
returns c = sym (c.loop-place.invariant.1 ∙ fault_none _ _ (search rules))
