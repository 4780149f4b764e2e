-- What the leaves write: the nine numbers of an answer, and the parts that solving left.
use Prim.Native.Nat.{ℕ, zero, suc, ◌+◌, ◌-◌, ◌≤◌, ◌<◌}
use mathlib.Core.Path.{◌≡◌, refl, ap, ◌∙◌}
use mathlib.Core.List.{List, [], ◌∷◌}
use native.Mathlib.Omega.{arith}
use lib.ListN.{length, get_or}
use borrow.Rule.Slice.PartMut.{put_mid, Post-is}
use Rattle.solver.specs.declared.Answer.{Answer}
use Rattle.solver.specs.Solving.{Left, left}
use Rattle.days.specs.Days.{nine, part_left}

-- The nine numbers, four of them widened.
pub nine_is : (a : Answer) (x y z w : ℕ) → x ≡ a.refusal → y ≡ a.place → z ≡ a.stamp → w ≡ a.phases
    → x ∷ y ∷ z ∷ a.value ∷ a.scale ∷ w ∷ a.saturating ∷ a.nonsaturating ∷ a.relabels ∷ [] ≡ nine a
nine_is a x y z w p q r s = rw (p, q, r, s)

-- What solving left of two parts that were lent.
pub parts_left : (a e at : ℕ) (flow side : List ℕ) (l given : Left) → a ≤ e → l ≡ given
    → left l.answer (put_mid a (e - a) flow l.flow) (put_mid at ((at + 512) - at) side l.side) l.work ≡ part_left a e at flow side given
parts_left a e at flow side l given ordered same =
    ap (λ (x : Left). left x.answer (put_mid a (e - a) flow x.flow) (put_mid at ((at + 512) - at) side x.side) x.work) same
    ∙ rw (Post-is a e flow ordered, Post-is at (at + 512) side (omega arith))

-- A number that is there is read with any number in its stead.
pub read_any : (row : List ℕ) (k x y : ℕ) → k < length row → get_or row k x ≡ get_or row k y
read_any [] k x y inside = absurd (omega arith)
read_any (z ∷ row) zero x y inside = refl
read_any (z ∷ row) (suc k) x y inside = read_any row k x y (omega arith)
