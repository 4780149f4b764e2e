-- A push and a relabel of rows are the theory's push and relabel of functions.
use Prim.Native.Nat.{ℕ, ◌+◌, ◌-◌, ◌<◌, min}
use mathlib.Core.Path.{◌≡◌, refl, ap, ap₂, sym, ◌∙◌}
use mathlib.Core.Bool.{Bool, true, false, cond}
use mathlib.Core.List.{List, Memᴰ}
use native.Mathlib.Omega.{arith}
use lib.ListN.{length, set, length-set}
use Rattle.rows.specs.Row.{at_node, at_place, Node}
use Rattle.rows.proofs.Functions.{put}
use Rattle.rows.proofs.Sums.{put_other}
use Rattle.rows.proofs.Rows.{place_set, node_set, put_self}
use Rattle.network.specs.Network.{residual_over, is_inner, Sound}
use Rattle.network.proofs.Notions.{far_end_node, ends_differ}
use Rattle.network.proofs.Steps.{taken, brought}
use Rattle.network.proofs.Steps.{State as Functions, moved as changed, push as pushed, relabel as relabelled, amount as moves}
use Rattle.table.specs.Table.{Table, arcs, network_of}
use Rattle.arcs.specs.Residual.{way, far, list}
use Rattle.run.specs.Start.{State}
use Rattle.run.specs.Push.{amount, moved, along, push}
use Rattle.run.specs.Relabel.{new_label, relabel}
use Rattle.run.specs.Rows.{Fits}
use Rattle.run.proofs.Networks.{functions_of, by_cond}
use Rattle.arcs.proofs.Members.{list_touches, member_start}

-- States of functions are equal where their parts are.
functions_equal : {f g e d l k : ℕ → ℕ} → f ≡ g → e ≡ d → l ≡ k
    → ◌≡◌ {A = Functions} (record { flow = f; excess = e; label = l }) (record { flow = g; excess = d; label = k })
functions_equal p q r = λ x. record { flow = p x; excess = q x; label = r x }

module _ (t : Table) (excess : List ℕ) (i j d : ℕ)
    (here : Node (length excess) i) (there : Node (length excess) j) (apart : j ≡ i → ⊥) where
  -- The excess row after d is taken from i, as a function.
  abbrev lowered : ℕ → ℕ
  lowered = put (at_node excess) i (at_node excess i - d)

  -- After d came to j as well, where j is neither source nor sink.
  abbrev carried : ℕ → ℕ
  carried = put lowered j (cond (is_inner (network_of t) j) (at_node excess j + d) (at_node excess j))

  -- The excess row after d went from i to j is this function.
  moved_same : at_node (moved t excess i j d) ≡ carried
  moved_same = by_cond (λ row. at_node row ≡ carried) (is_inner (network_of t) j) (set left (j - 1) (at_node left j + d)) left brought_there kept
    where
      left : List ℕ
      left = set excess (i - 1) (at_node excess i - d)

      left_same : at_node left ≡ lowered
      left_same = node_set excess i (at_node excess i - d) here

      far_kept : lowered j ≡ at_node excess j
      far_kept = put_other (at_node excess) i (at_node excess i - d) j apart

      by_kind : (b : Bool) → is_inner (network_of t) j ≡ b → put lowered j (cond b (at_node excess j + d) (at_node excess j)) ≡ carried
      by_kind b e = ap (λ b. put lowered j (cond b (at_node excess j + d) (at_node excess j))) (sym e)

      brought_there : is_inner (network_of t) j ≡ true → at_node (set left (j - 1) (at_node left j + d)) ≡ carried
      brought_there e =
          node_set left j (at_node left j + d) (omega (arith, length-set excess (i - 1) (at_node excess i - d)))
          ∙ ap₂ (λ f x. put f j (x + d)) left_same (ap (λ f. f j) left_same ∙ far_kept)
          ∙ by_kind true e

      kept : is_inner (network_of t) j ≡ false → at_node left ≡ carried
      kept e = left_same ∙ sym (put_self lowered j) ∙ ap (put lowered j) far_kept ∙ by_kind false e

module _ (t : Table) (sound : Sound (network_of t)) (st : State) (fits : Fits t st) (i : ℕ) (v : Node t.nodes i) where
  module _ (k : ℕ) (member : Memᴰ k (list t i)) where
    -- The place is one of the table's,
    below : k < arcs t
    below = (list_touches t i member).0

    -- and the far end is a node.
    far_node : Node t.nodes (far t i k)
    far_node = far_end_node (network_of t) sound k (way t i k) below

    -- It is not i.
    far_other : far t i k ≡ i → ⊥
    far_other e = ends_differ (network_of t) sound k (way t i k) below (member_start t i member ∙ sym e)

    -- What is pushed is what the theory's push moves.
    pub amount_same : (delta : ℕ) → amount t delta st i k ≡ moves (network_of t) delta (functions_of st) k (way t i k)
    amount_same delta =
        ap
        (λ x.
        min (at_node st.excess x) (min (residual_over (network_of t) (at_place st.flow) k (way t i k)) (delta - at_node st.excess (far t i k))))
        (sym (member_start t i member))

    module _ (d : ℕ) where
      -- The flow row after a push of d.
      flow_same : at_place (along t st.flow i k d) ≡ put (at_place st.flow) k (changed (way t i k) (at_place st.flow k) d)
      flow_same = place_set st.flow k _ (omega (arith, fits.flow, below)) ∙ ap (put (at_place st.flow) k) (ways (way t i k))
        where
          ways : (b : Bool) → cond b (at_place st.flow k + d) (at_place st.flow k - d) ≡ changed b (at_place st.flow k) d
          ways true = refl
          ways false = refl

      -- The excess row after a push of d.
      excess_same : at_node (moved t st.excess i (far t i k) d)
          ≡ put (taken (network_of t) k (way t i k) d (functions_of st)) (far t i k) (brought (network_of t) k (way t i k) d (functions_of st))
      excess_same =
          moved_same t st.excess i (far t i k) d (omega (arith, fits.excess)) (omega (arith, fits.excess, far_node)) far_other
          ∙ ap
          (λ a.
          put (put (at_node st.excess) a (at_node st.excess a - d)) (far t i k)
          (cond (is_inner (network_of t) (far t i k)) (at_node st.excess (far t i k) + d) (at_node st.excess (far t i k))))
          (sym (member_start t i member))

    -- The state after a push.
    pub push_same : (delta : ℕ) → functions_of (push t delta st i k) ≡ pushed (network_of t) k (way t i k) (amount t delta st i k) (functions_of st)
    unfolding push
    push_same delta = functions_equal (flow_same (amount t delta st i k)) (excess_same (amount t delta st i k)) refl

    -- The rows keep their lengths.
    pub push_fits : (delta : ℕ) → Fits t (push t delta st i k)
    unfolding push
    push_fits delta =
        record {
          flow = length-set st.flow k _ ∙ fits.flow;
          excess =
              by_cond (λ row. length row ≡ t.nodes) (is_inner (network_of t) (far t i k))
              (set left (far t i k - 1) (at_node left (far t i k) + amount t delta st i k)) left (λ _. rw length-set once) (λ _. once);
          label = fits.label;
        }
      where
        left : List ℕ
        left = set st.excess (i - 1) (at_node st.excess i - amount t delta st i k)

        once : length left ≡ t.nodes
        once = length-set st.excess (i - 1) (at_node st.excess i - amount t delta st i k) ∙ fits.excess

  -- The state after a relabel.
  pub relabel_same : functions_of (relabel t st i) ≡ relabelled i (new_label t st i) (functions_of st)
  unfolding relabel
  relabel_same = functions_equal refl refl (node_set st.label i (new_label t st i) (omega (arith, fits.label)))

  -- The rows keep their lengths.
  pub relabel_fits : Fits t (relabel t st i)
  unfolding relabel
  relabel_fits = record { flow = fits.flow; excess = fits.excess; label = length-set st.label (i - 1) (new_label t st i) ∙ fits.label }
