-- Results that meet the promise are the same in all but the flow: which greatest flow comes back is free.
use Prim.Native.Nat.{ℕ}
use mathlib.Core.Path.{◌≡◌, refl, ap, sym, subst, ◌∙◌}
use mathlib.Core.Bool.{true≢false}
use mathlib.Core.List.{List, ◌++◌}
use native.Mathlib.Omega.{arith}
use lib.IntN.{ℤ}
use lib.ListN.{take, drop}
use lib.Seq.{take_at, drop_at}
use lib.Signed.{◌≤ℤ◌}
use Rattle.rows.specs.Row.{at_place}
use Rattle.rows.proofs.Sums.{by_test}
use Rattle.network.specs.Network.{inflow, outflow}
use Rattle.table.specs.Table.{arcs}
use Rattle.reach.specs.Side.{marked}
use Rattle.reach.proofs.Side.{same_reached, length_of_side}
use Rattle.minimums.specs.BoundedTable.{BoundedTable, AcceptedBounded}
use Rattle.feasible.specs.Flows.{bounded_network}
use Rattle.feasible.proofs.Accepting.{bounded_sound}
use Rattle.bounded.specs.Bounded.{bounded_side, value_of, GreatestBounded}
use Rattle.bounded.specs.Solving.{Holds, Leaves}
use Rattle.std.specs.Prelude.{Option, Some, None}
use Rattle.bounded.proofs.Signed.{same, order_only}

module _ (b : BoundedTable) {flow side flow' side' : List ℕ} {value value' : ℤ}
    (g : GreatestBounded b flow side value) (h : GreatestBounded b flow' side' value') where
  -- What leaves the source in a flow, and what enters it.
  abbrev out : List ℕ → ℕ
  out f = outflow (bounded_network b) (at_place f) b.table.source

  abbrev into : List ℕ → ℕ
  into f = inflow (bounded_network b) (at_place f) b.table.source

  -- The value is the same,
  pub value_same : value ≡ value'
  value_same =
      g.net
      ∙ same (out flow) (into flow) (out flow') (into flow')
      (omega (
        arith,
        order_only (out flow') (into flow') (out flow) (into flow)
            (subst (λ z. value_of b (at_place flow') ≤ℤ z) g.net (g.greatest (at_place flow') h.keeps)),
        order_only (out flow) (into flow) (out flow') (into flow')
            (subst (λ z. value_of b (at_place flow) ≤ℤ z) h.net (h.greatest (at_place flow) g.keeps)),
      ))
      ∙ sym h.net

  -- and so are the marks.
  pub marks_same : (i : ℕ) → marked side i ≡ marked side' i
  marks_same i =
      by_test (marked side i)
      (λ e. e ∙ sym (g.smallest (marked side') h.is_cut (sym h.cut ∙ sym value_same) i e))
      (λ e.
      by_test (marked side' i)
      (λ f. absurd (true≢false (sym (h.smallest (marked side) g.is_cut (sym g.cut ∙ value_same) i f) ∙ e)))
      (λ f. e ∙ sym f))

-- The first marks of a row that holds a side are the side.
side_front : (b : BoundedTable) → AcceptedBounded b → (flow side row : List ℕ) → row ≡ bounded_side b flow ++ drop b.table.nodes side
    → take b.table.nodes row ≡ bounded_side b flow
side_front b a flow side row e =
    ap (take b.table.nodes) e
    ∙ take_at (bounded_side b flow) (drop b.table.nodes side) b.table.nodes (length_of_side (bounded_network b) (at_place flow) (bounded_sound b a))

module _ (b : BoundedTable) (a : AcceptedBounded b) {flow side other own flow₁ side₁ flow₂ side₂ : List ℕ} {v w : ℤ}
    (holds : Holds b flow side flow₁ side₁) (g : GreatestBounded b (take (arcs b.table) flow₁) (take b.table.nodes side₁) v)
    (keeps : Holds b other own flow₂ side₂) (h : GreatestBounded b (take (arcs b.table) flow₂) (take b.table.nodes side₂) w) where
  -- Two flows of greatest value have the same side, whatever their rows held before:
  pub sides_same : bounded_side b (take (arcs b.table) flow₁) ≡ bounded_side b (take (arcs b.table) flow₂)
  sides_same =
      same_reached (bounded_network b) (at_place (take (arcs b.table) flow₁)) (at_place (take (arcs b.table) flow₂)) (bounded_sound b a)
      (λ i.
      ap (λ r. marked r i) (sym (side_front b a (take (arcs b.table) flow₁) side side₁ holds.side_row))
      ∙ marks_same b g h i
      ∙ ap (λ r. marked r i) (side_front b a (take (arcs b.table) flow₂) own side₂ keeps.side_row))

  -- so the first n places of their side rows are the same.
  pub fronts_same : take b.table.nodes side₁ ≡ take b.table.nodes side₂
  fronts_same =
      side_front b a (take (arcs b.table) flow₁) side side₁ holds.side_row ∙ sides_same
      ∙ sym (side_front b a (take (arcs b.table) flow₂) own side₂ keeps.side_row)

-- A side row's later places are as they were.
pub side_later : (b : BoundedTable) → AcceptedBounded b → {flow side flow₁ side₁ : List ℕ} → Holds b flow side flow₁ side₁
    → drop b.table.nodes side₁ ≡ drop b.table.nodes side
side_later b a {flow} {side} {flow₁} {side₁} holds =
    ap (drop b.table.nodes) holds.side_row
    ∙ drop_at (bounded_side b (take (arcs b.table) flow₁)) (drop b.table.nodes side) b.table.nodes
    (length_of_side (bounded_network b) (at_place (take (arcs b.table) flow₁)) (bounded_sound b a))

-- Two ends of one call: the same answer and the same side row.
pub leaves_same : (b : BoundedTable) → AcceptedBounded b → (flow side flow₁ side₁ flow₂ side₂ : List ℕ) (r q : Option ℤ)
    → Leaves b flow side r flow₁ side₁ → Leaves b flow side q flow₂ side₂ → (r ≡ q) × (side₁ ≡ side₂)
leaves_same b a flow side flow₁ side₁ flow₂ side₂ None None l m = (refl, l.1.1 ∙ sym m.1.1)
leaves_same b a flow side flow₁ side₁ flow₂ side₂ None (Some v) l m = absurd (l.0 _ m.1.keeps)
leaves_same b a flow side flow₁ side₁ flow₂ side₂ (Some v) None l m = absurd (m.0 _ l.1.keeps)
leaves_same b a flow side flow₁ side₁ flow₂ side₂ (Some v) (Some w) l m = (
  ap Some (value_same b l.1 m.1),
  l.0.side_row ∙ ap (λ r. r ++ drop b.table.nodes side) (sides_same b a l.0 l.1 m.0 m.1) ∙ sym m.0.side_row,
)
