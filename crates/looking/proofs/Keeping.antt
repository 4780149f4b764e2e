-- The row that says how far each list was looked through: at the start, after a push, after a relabel.
use Prim.Native.Nat.{ℕ, ◌-◌, ◌≤◌, ◌<◌}
use native.Mathlib.Omega.{arith}
use mathlib.Core.Path.{◌≡◌, ap, ◌∙◌}
use mathlib.Core.Bool.{true, false}
use mathlib.Core.List.{List}
use lib.ListN.{length, set, replicate, length-set, length-replicate, get_or-replicate}
use Rattle.rows.specs.Row.{Node, at_place, at_node}
use Rattle.rows.proofs.Functions.{put}
use Rattle.rows.proofs.Sums.{by_equal, put_same, put_other}
use Rattle.rows.proofs.Rows.{node_at, node_set}
use Rattle.table.specs.Table.{Table, arcs}
use Rattle.arcs.specs.Residual.{touches, list}
use Rattle.arcs.proofs.Members.{list_stands}
use Rattle.run.specs.Start.{State}
use Rattle.run.specs.Push.{eligible, push}
use Rattle.run.specs.Relabel.{new_label, relabel}
use Rattle.looking.specs.Looked.{NoneBefore, Looked, ValidLabels, HighBefore}
use Rattle.looking.proofs.Passing.{push_keeps, relabel_keeps, relabel_passes}

-- Node u's list was looked through to p, and nothing became eligible at any other node.
looked_put : (t : Table) (st after : State) (looked : List ℕ) (u p : ℕ) → Node t.nodes u → Looked t st looked
    → p ≤ length (list t u) → NoneBefore t after u (list t u) p
    → ((i k : ℕ) → (i ≡ u → ⊥) → k < arcs t → touches t i k ≡ true → eligible t st i k ≡ false → eligible t after i k ≡ false)
    → Looked t after (set looked (u - 1) p)
looked_put t st after looked u p node known fits here keeps =
    record {
      size = length-set looked (u - 1) p ∙ known.size;
      within = λ i v.
          by_equal i u
          (λ e. omega (arith, own i e, ap (λ (x : ℕ). length (list t x)) e))
          (λ ne. omega (arith, other i ne, known.within i v));
      none = λ i v.
          by_equal i u
          (λ e j l. rw e (here j (omega (arith, own i e))))
          (λ ne j l.
          let below : j < at_node looked i = omega (arith, other i ne) in
          let at = list_stands t i j (omega (arith, known.within i v)) in
          keeps i (at_place (list t i) j) ne at.0 at.1 (known.none i v j below));
    }
  where
    are : at_node (set looked (u - 1) p) ≡ put (at_node looked) u p
    are = node_set looked u p (omega (arith, node, known.size))

    own : (i : ℕ) → i ≡ u → at_node (set looked (u - 1) p) i ≡ p
    own i e = ap (λ (f : ℕ → ℕ). f i) are ∙ put_same (at_node looked) u p i e

    other : (i : ℕ) → (i ≡ u → ⊥) → at_node (set looked (u - 1) p) i ≡ at_node looked i
    other i ne = ap (λ (f : ℕ → ℕ). f i) are ∙ put_other (at_node looked) u p i ne

-- After a push along the eligible place at position p of node u's list, that list is looked through to p and the others as far as before.
pub looked_push : (t : Table) (delta : ℕ) (st : State) (looked : List ℕ) (u p : ℕ) → Node t.nodes u → Looked t st looked
    → p < length (list t u) → NoneBefore t st u (list t u) p → eligible t st u (at_place (list t u) p) ≡ true
    → Looked t (push t delta st u (at_place (list t u) p)) (set looked (u - 1) p)
looked_push t delta st looked u p node known l none is =
    let k = at_place (list t u) p in
    let keeps = push_keeps t delta st u k is (list_stands t u p l).1 in
    looked_put t st (push t delta st u k) looked u p node known (omega arith)
    (λ j h. keeps u (at_place (list t u) j) (list_stands t u j (omega arith)).1 (none j h))
    (λ i a ne below e not_a. keeps i a e not_a)

-- After a relabel of node u its list is looked through to a position p before which no residual arc leads below the new label, the others as far as before.
pub looked_relabel : (t : Table) (st : State) (looked : List ℕ) (u p : ℕ) → ValidLabels t st → length st.label ≡ t.nodes → Node t.nodes u
    → Looked t st looked → p ≤ length (list t u) → HighBefore t st u (list t u) p (new_label t st u)
    → Looked t (relabel t st u) (set looked (u - 1) p)
looked_relabel t st looked u p valid size node known fits high =
    looked_put t st (relabel t st u) looked u p node known fits
    (λ j l. relabel_passes t st u valid node size (at_place (list t u) j) (high j l))
    (λ i k ne l e none. relabel_keeps t st u valid node size i k ne l e none)

-- At the start nothing was looked through.
pub looked_none : (t : Table) (st : State) (looked : List ℕ) → looked ≡ replicate t.nodes 0 → Looked t st looked
looked_none t st looked is =
    rw is (record {
      size = length-replicate t.nodes 0;
      within = λ i v. omega (arith, zeros i v);
      none = λ i v j l. absurd (omega (arith, zeros i v));
    })
  where
    zeros : (i : ℕ) → Node t.nodes i → at_node (replicate t.nodes 0) i ≡ 0
    zeros i v = node_at (replicate t.nodes 0) i v.0 ∙ get_or-replicate t.nodes (i - 1) 0 0 (omega arith)
