-- What was passed over stays passed over: a push makes no arc eligible, and a relabel none of another node.
use Prim.Native.Nat.{ℕ, ◌+◌, ◌-◌, ◌≤◌, ◌<◌}
use native.Mathlib.Omega.{arith}
use mathlib.Core.Path.{◌≡◌, refl, ap, sym, ◌∙◌}
use mathlib.Core.Logic.{◌⊎◌, inl, inr, ⊎_elim}
use mathlib.Core.Bool.{Bool, true, false, true≢false, ◌&&◌}
use lib.ListN.{length}
use lib.Seq.{get_or-set_other}
use lib.Dec.{eqb, ltb}
use borrow.Author.Tests.{lt-ltb, le-ltb, ne_eqb, eqb-true, eqb-false}
use Rattle.rows.specs.Row.{Node, at_place, at_node}
use Rattle.rows.proofs.Functions.{put}
use Rattle.rows.proofs.Sums.{by_equal, by_order, both_true, put_same, put_other}
use Rattle.rows.proofs.Rows.{node_set}
use Rattle.network.specs.Network.{near_end, far_end, residual_over}
use Rattle.table.specs.Table.{Table, arcs, capacity, network_of}
use Rattle.arcs.specs.Residual.{way, far, residual, touches, list}
use Rattle.arcs.proofs.Members.{list_touches, way_start}
use Rattle.run.specs.Start.{State}
use Rattle.run.specs.Push.{eligible, push}
use Rattle.run.specs.Relabel.{top, new_label, relabel}
use Rattle.run.proofs.Networks.{FactsOf}
use Rattle.run.proofs.Arcs.{least_is}
use Rattle.looking.specs.Looked.{ValidLabels}

-- The theory's facts make labels valid.
pub facts_valid : (t : Table) (delta : ℕ) (st : State) → FactsOf t delta st → ValidLabels t st
facts_valid t delta st facts =
    record {
      down = λ i k l e some. omega (arith, facts.valid k (way t i k) l some, ap (at_node st.label) (way_start t i k e));
      high = facts.highest;
    }

-- ---- eligible or not, in numbers: with residual r, far label a and own label b

-- An arc that is not eligible does not go down by exactly one where it has residual,
not_down : (r a b : ℕ) → ltb 0 r && eqb (a + 1) b ≡ false → 0 < r → a + 1 ≡ b → ⊥
not_down r a b e h = eqb-false (a + 1) b (rw (lt-ltb 0 r h) at e)

-- and one that does not is not eligible.
not_eligible : (r a b : ℕ) → (0 < r → a + 1 ≡ b → ⊥) → ltb 0 r && eqb (a + 1) b ≡ false
not_eligible r a b ne = by_order r 0 (λ l. rw (le-ltb 0 r l)) (λ h. rw (lt-ltb 0 r h) (ne_eqb (a + 1) b (ne h)))

-- One that is eligible goes down by one.
is_down : (r a b : ℕ) → ltb 0 r && eqb (a + 1) b ≡ true → a + 1 ≡ b
is_down r a b e = eqb-true (a + 1) b (both_true (ltb 0 r) (eqb (a + 1) b) e).1

-- ---- a push

-- Two nodes that an arc touches are the same, or each is the other's far end.
ends : (t : Table) (k i u : ℕ) → touches t i k ≡ true → touches t u k ≡ true → (i ≡ u) ⊎ ((far t i k ≡ u) × (far t u k ≡ i))
ends t k i u at_i at_u = go (way t i k) (way t u k) (way_start t i k at_i) (way_start t u k at_u)
  where
    go : (b c : Bool) → near_end (network_of t) k b ≡ i → near_end (network_of t) k c ≡ u
        → (i ≡ u) ⊎ ((far_end (network_of t) k b ≡ u) × (far_end (network_of t) k c ≡ i))
    go true true p q = inl (sym p ∙ q)
    go true false p q = inr (q, p)
    go false true p q = inr (q, p)
    go false false p q = inl (sym p ∙ q)

module _ (t : Table) (delta : ℕ) (st : State) (u k : ℕ) where
  -- A push along place k leaves the residuals at other places.
  residual_other : (i a : ℕ) → (a ≡ k → ⊥) → residual t (push t delta st u k).flow i a ≡ residual t st.flow i a
  unfolding push
  residual_other i a ne = go (way t i a)
    where
      same : at_place (push t delta st u k).flow a ≡ at_place st.flow a
      same = get_or-set_other st.flow k a _ 0 ne

      go : (b : Bool) → residual_over (network_of t) (at_place (push t delta st u k).flow) a b ≡ residual_over (network_of t) (at_place st.flow) a b
      go true = ap (λ (f : ℕ). capacity t a - f) same
      go false = ap (λ (f : ℕ). f - 0) same

  -- It makes no arc eligible.
  pub push_keeps : eligible t st u k ≡ true → touches t u k ≡ true
      → (i a : ℕ) → touches t i a ≡ true → eligible t st i a ≡ false → eligible t (push t delta st u k) i a ≡ false
  unfolding push
  push_keeps is at_u i a at_i none =
      by_equal a k
      (λ e. rw e (here (rw e at at_i) (rw e at none)))
      (λ ne. ap (λ (r : ℕ). ltb 0 r && eqb (at_node st.label (far t i a) + 1) (at_node st.label i)) (residual_other i a ne) ∙ none)
    where
      here : touches t i k ≡ true → eligible t st i k ≡ false → eligible t (push t delta st u k) i k ≡ false
      here at_k not_k =
          not_eligible (residual t (push t delta st u k).flow i k) (at_node st.label (far t i k)) (at_node st.label i)
          (λ h q.
          ⊎_elim
          (λ e. true≢false (sym is ∙ ap (λ (x : ℕ). eligible t st x k) (sym e) ∙ not_k))
          (λ across.
          omega (
            arith,
            q,
            ap (at_node st.label) across.0,
            ap (at_node st.label) across.1,
            is_down (residual t st.flow u k) (at_node st.label (far t u k)) (at_node st.label u) is,
          ))
          (ends t k i u at_k at_u))

-- ---- a relabel

module _ (t : Table) (st : State) (u : ℕ) (valid : ValidLabels t st) (node : Node t.nodes u) (size : length st.label ≡ t.nodes) where
  -- It lowers no label.
  rises : at_node st.label u ≤ new_label t st u
  rises =
      ⊎_elim
      (λ e. omega (arith, e, valid.high u node))
      (λ r.
      let found = list_touches t u r.member in
      omega (arith, r.label, valid.down u r.place found.0 found.1 r.left))
      (least_is t st u (list t u) (top t))

  -- The labels after it.
  labels_are : at_node (relabel t st u).label ≡ put (at_node st.label) u (new_label t st u)
  unfolding relabel
  labels_are = node_set st.label u (new_label t st u) (omega (arith, node))

  -- Node u's is the new one,
  own_label : (v : ℕ) → v ≡ u → at_node (relabel t st u).label v ≡ new_label t st u
  own_label v e = ap (λ (f : ℕ → ℕ). f v) labels_are ∙ put_same (at_node st.label) u (new_label t st u) v e

  -- any other's as before,
  other_label : (v : ℕ) → (v ≡ u → ⊥) → at_node (relabel t st u).label v ≡ at_node st.label v
  other_label v ne = ap (λ (f : ℕ → ℕ). f v) labels_are ∙ put_other (at_node st.label) u (new_label t st u) v ne

  -- and none falls.
  no_fall : (v : ℕ) → at_node st.label v ≤ at_node (relabel t st u).label v
  no_fall v = by_equal v u (λ e. omega (arith, own_label v e, ap (at_node st.label) e, rises)) (λ ne. omega (arith, other_label v ne))

  -- It leaves the flow.
  flow_same : (relabel t st u).flow ≡ st.flow
  unfolding relabel
  flow_same = refl

  -- Eligible after it, in numbers.
  after : (i k : ℕ) → (0 < residual t st.flow i k → at_node (relabel t st u).label (far t i k) + 1 ≡ at_node (relabel t st u).label i → ⊥)
      → eligible t (relabel t st u) i k ≡ false
  unfolding relabel
  after i k ne = not_eligible (residual t st.flow i k) (at_node (relabel t st u).label (far t i k)) (at_node (relabel t st u).label i) ne

  -- No arc of another node becomes eligible.
  pub relabel_keeps : (i k : ℕ) → (i ≡ u → ⊥) → k < arcs t → touches t i k ≡ true → eligible t st i k ≡ false → eligible t (relabel t st u) i k ≡ false
  relabel_keeps i k ne l e none =
      after i k
      (λ some q.
      not_down (residual t st.flow i k) (at_node st.label (far t i k)) (at_node st.label i) none some
      (omega (arith, q, no_fall (far t i k), valid.down i k l e some, other_label i ne)))

  -- Nor one of node u itself whose far end is not below the new label.
  pub relabel_passes : (k : ℕ) → (0 < residual t st.flow u k → new_label t st u ≤ at_node st.label (far t u k)) → eligible t (relabel t st u) u k ≡ false
  relabel_passes k high =
      after u k
      (λ some q. omega (arith, q, high some, no_fall (far t u k), own_label u refl))
