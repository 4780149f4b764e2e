-- Labels stay labels while chains by them are filled, and a chain by labels that arrives is the chain to fill: so distances need be measured anew only where none arrives.
use Prim.Native.Nat.{ℕ, suc, ◌≤◌}
use mathlib.Core.Path.{◌≡◌, refl, sym, ap, subst, ◌∙◌}
use mathlib.Core.Logic.{◌⊎◌, inl, inr, ⊎_elim}
use mathlib.Core.Bool.{true, false, true≢false}
use mathlib.Core.List.{List}
use native.Mathlib.Omega.{arith}
use lib.ListN.{length, length-set}
use lib.Dec.{ltb}
use Rattle.rows.specs.Row.{at_place, at_node}
use Rattle.rows.proofs.Sums.{by_test, by_equal}
use Rattle.network.specs.Network.{Network, Sound}
use Rattle.network.proofs.Notions.{residual_over_ext}
use Rattle.shortest.specs.Ways.{Leads, ahead, behind, other_end}
use Rattle.shortest.specs.Distance.{leads_to, chain_from}
use Rattle.shortest.specs.Labels.{Labels, arrives, NoneLower}
use Rattle.shortest.specs.Chain.{Chain, arrived, step, FirstChain}
use Rattle.shortest.specs.Augment.{moved, ways_in, way_from, moved_at, filled, least_residual, distances_in, reaches, chain_in, augmented}
use Rattle.shortest.proofs.Chains.{chain_long, leads_place, leads_to_leads, leads_leads_to, arrives_first, first_chain_same}
use Rattle.shortest.proofs.Filling.{lead_far, moved_other}
use Rattle.shortest.proofs.Settling.{ways_ends, source_within, distances_in_lem, distances_reach, chain_first, stopped_no_chain}

-- ---- an arc in two flows

module _ (N : Network) where
  -- An arc with the same flow is open as it was.
  same_leads : (f g : List ℕ) (a i j : ℕ) → at_place f a ≡ at_place g a → Leads (ways_in N f) a i j → Leads (ways_in N g) a i j
  same_leads f g a i j e (ahead l o t h) = ahead l (ap (ltb 0) (residual_over_ext N (at_place g) (at_place f) a true (sym e)) ∙ o) t h
  same_leads f g a i j e (behind l o h t) = behind l (ap (ltb 0) (residual_over_ext N (at_place g) (at_place f) a false (sym e)) ∙ o) h t

  -- Open in both, it leads the same way or the other.
  same_ends : (f g : List ℕ) (a x y i j : ℕ) → Leads (ways_in N f) a x y → Leads (ways_in N g) a i j → ((i ≡ x) × (j ≡ y)) ⊎ ((i ≡ y) × (j ≡ x))
  same_ends f g a x y i j (ahead l o t h) (ahead m p u v) = inl (sym u ∙ t, sym v ∙ h)
  same_ends f g a x y i j (ahead l o t h) (behind m p v u) = inr (sym v ∙ h, sym u ∙ t)
  same_ends f g a x y i j (behind l o h t) (ahead m p u v) = inr (sym u ∙ t, sym v ∙ h)
  same_ends f g a x y i j (behind l o h t) (behind m p v u) = inl (sym v ∙ h, sym u ∙ t)

-- ---- a chain by labels is filled

module _ (N : Network) (sound : Sound N) (n : ℕ) (flow row : List ℕ) (low : Labels (ways_in N flow) n N.t row) (d : ℕ) where
  -- An arc that led one nearer.
  abbrev Nearer : ℕ → Type 0
  Nearer a = (x : ℕ) × (y : ℕ) × Leads (ways_in N flow) a x y × (at_node row x ≡ suc (at_node row y))

  -- Every arc has the flow that it had, or led one nearer.
  filled_place : {i : ℕ} {ls : List ℕ} → Chain (ways_in N flow) N.t i ls → at_node row i ≡ length ls → (now : List ℕ) → N.m ≤ length now → (a : ℕ)
      → (at_place (filled N d i ls now) a ≡ at_place now a) ⊎ Nearer a
  unfolding filled
  filled_place arrived at now long a = inl refl
  filled_place (step {i} {j} {ks} k lead rest) at now long a =
      by_equal a k
      (λ e. inr (subst Nearer (sym e) (i, j, lead, omega (arith, far))))
      (λ ne. ⊎_elim (λ same. inl (same ∙ moved_other N d i k a now long (leads_place lead) ne)) (λ near. inr near)
      (subst (λ x. (at_place (filled N d x ks (moved_at N d i k now)) a ≡ at_place (moved_at N d i k now) a) ⊎ Nearer a) (sym (lead_far N sound flow lead))
      (filled_place rest far (moved_at N d i k now) (omega (arith, length-set now k (moved (way_from N i k) (at_place now k) d))) a)))
    where
      far : at_node row j ≡ length ks
      far = omega (arith, low.valid k i j lead, chain_long (ways_in N flow) n N.t row low rest)

  module _ {i : ℕ} {ls : List ℕ} (chain : Chain (ways_in N flow) N.t i ls) (at : at_node row i ≡ length ls) (long : N.m ≤ length flow) where
    -- An arc that is open then was open, or leads one farther.
    filled_lead : (a x y : ℕ) → Leads (ways_in N (filled N d i ls flow)) a x y → Leads (ways_in N flow) a x y ⊎ (at_node row y ≡ suc (at_node row x))
    filled_lead a x y lead =
        ⊎_elim
        (λ same. inl (same_leads N (filled N d i ls flow) flow a x y same lead))
        (λ (u, v, before, nearer). ⊎_elim
        (λ (p, q). inl (subst (λ z. Leads (ways_in N flow) a z y) (sym p) (subst (Leads (ways_in N flow) a u) (sym q) before)))
        (λ (p, q). inr (ap (at_node row) q ∙ nearer ∙ ap (λ z. suc (at_node row z)) (sym p)))
        (same_ends N flow (filled N d i ls flow) a u v x y before lead))
        (filled_place chain at flow long a)

    -- So labels stay labels,
    pub filled_labels : Labels (ways_in N (filled N d i ls flow)) n N.t row
    filled_labels =
        record {
          long = low.long;
          at_most = low.at_most;
          at_sink = low.at_sink;
          only_sink = low.only_sink;
          valid = λ k x y lead. ⊎_elim (low.valid k x y) (λ up. omega arith) (filled_lead k x y lead);
        }

    -- and below a place where none led one nearer none does.
    pub filled_none_lower : (lowest : List ℕ) → NoneLower (ways_in N flow) n row lowest → NoneLower (ways_in N (filled N d i ls flow)) n row lowest
    filled_none_lower lowest none x e p hx ax noted below =
        by_test (leads_to (ways_in N (filled N d i ls flow)) row e x p)
        (λ yes.
        let (lead, far) = leads_to_leads (ways_in N (filled N d i ls flow)) row e x p (omega (arith, noted, below)) yes in
        ⊎_elim
        (λ old.
        absurd
        (true≢false
        (sym (leads_leads_to (ways_in N flow) row e x (other_end (ways_in N flow) x p) p old (λ q. omega (arith, ap (at_node row) q)) far).0 ∙ none x e p hx ax noted below)))
        (λ up. absurd (omega arith)) (filled_lead p x _ lead))
        (λ no. no)

-- ---- the chain to fill

module _ (N : Network) (sound : Sound N) (flow row : List ℕ) (low : Labels (ways_in N flow) N.n N.t row) where
  module _ (there : arrives (ways_in N flow) row (at_node row N.s) N.s ≡ true) where
    -- A chain by labels that arrives is first among those of fewest arcs,
    labels_first : FirstChain (ways_in N flow) N.s N.t (chain_from (ways_in N flow) row (at_node row N.s) N.s)
    labels_first = arrives_first (ways_in N flow) N.n N.t (ways_ends N sound flow) row low N.s (source_within N sound) there

    -- so the sink can be reached,
    pub labels_reach : reaches N flow ≡ true
    labels_reach = by_test (reaches N flow) (λ e. e) (λ e. absurd (stopped_no_chain N sound flow e labels_first.chain))

    -- and the chain is the one to fill.
    pub labels_chain : chain_from (ways_in N flow) row (at_node row N.s) N.s ≡ chain_in N flow
    labels_chain = first_chain_same (ways_in N flow) N.s N.t _ _ labels_first (chain_first N sound flow labels_reach)

  module _ (there : reaches N flow ≡ true) (even : length (chain_in N flow) ≡ at_node row N.s) (long : N.m ≤ length flow) where
    -- Filling it leaves labels labels,
    pub augmented_labels : Labels (ways_in N (augmented N flow)) N.n N.t row
    augmented_labels = filled_labels N sound N.n flow row low (least_residual N flow N.s (chain_in N flow)) (chain_first N sound flow there).chain (sym even) long

    -- and below a place where none led one nearer none does.
    pub augmented_none_lower : (lowest : List ℕ) → NoneLower (ways_in N flow) N.n row lowest → NoneLower (ways_in N (augmented N flow)) N.n row lowest
    augmented_none_lower = filled_none_lower N sound N.n flow row low (least_residual N flow N.s (chain_in N flow)) (chain_first N sound flow there).chain (sym even) long

-- By the distances themselves the chain arrives exactly where the sink can be reached.
pub distances_decide : (N : Network) → Sound N → (flow : List ℕ) → arrives (ways_in N flow) (distances_in N flow) (at_node (distances_in N flow) N.s) N.s ≡ reaches N flow
distances_decide N sound flow =
    by_test (arrives (ways_in N flow) (distances_in N flow) (at_node (distances_in N flow) N.s) N.s)
    (λ e. e ∙ sym (labels_reach N sound flow (distances_in N flow) (distances_in_lem N sound flow).labels e))
    (λ e. by_test (reaches N flow) (λ y. absurd (true≢false (sym (distances_reach N sound flow y) ∙ e))) (λ y. e ∙ sym y))
