-- The chain by the lowest places that lead one nearer, where it arrives, is the first of the chains of fewest arcs, and the only such: by the distances, and by labels that are nowhere above them.
use Prim.Native.Nat.{ℕ, zero, suc, ◌≤◌, ◌<◌}
use mathlib.Core.Path.{◌≡◌, refl, sym, ap, ap₂, subst, ◌∙◌}
use mathlib.Core.Logic.{◌⊎◌, inl, inr, ⊎_elim}
use mathlib.Core.Bool.{Bool, true, false, ◌&&◌, true≢false, cond}
use mathlib.Core.List.{List, [], ◌∷◌}
use native.Mathlib.Omega.{arith}
use lib.ListN.{length}
use lib.Dec.{eqb, ltb}
use borrow.Author.Tests.{lt-ltb, ltb-true, ltb-false, eqb-true, eq-eqb, ne_eqb}
use Rattle.rows.proofs.Sums.{by_test, by_equal, both_true}
use Rattle.rows.specs.Row.{at_node, Node}
use Rattle.shortest.specs.Ways.{Ways, Leads, ahead, behind, other_end}
use Rattle.shortest.specs.Distance.{leads_by, leads_to, lowest, next, chain_from}
use Rattle.shortest.specs.Labels.{Labels, arrives, Distances}
use Rattle.shortest.specs.Chain.{Chain, arrived, step, Before, ended, lower, alike, FirstChain}
use Rattle.shortest.proofs.Ends.{Ends, leads_within}

-- ---- the lowest place that passes

-- Below x none passes, and x passes itself unless it is the end, k.
abbrev pub LowestIs : (ℕ → Bool) → ℕ → ℕ → Type 0
LowestIs test k x = ((p : ℕ) → p < x → test p ≡ false) × (((x < k) × (test x ≡ true)) ⊎ (x ≡ k))

-- One place more.
lowest_more : (test : ℕ → Bool) (k x : ℕ) → LowestIs test k x → LowestIs test (suc k) (cond (ltb x k) x (cond (test k) k (suc k)))
lowest_more test k x before = by_test (ltb x k) old (λ e. by_test (test k) (found e) (nothing e))
  where
    old : ltb x k ≡ true → LowestIs test (suc k) (cond (ltb x k) x (cond (test k) k (suc k)))
    old e =
        let l = ltb-true x k e in
        rw e (before.0, inl (omega arith, ⊎_elim (λ p. p.1) (λ q. absurd (omega arith)) before.1))

    none_below : ltb x k ≡ false → (p : ℕ) → p < k → test p ≡ false
    none_below e p l =
        let high = ltb-false x k e in
        before.0 p (⊎_elim (λ y. omega (arith, y.0)) (λ q. omega arith) before.1)

    found : ltb x k ≡ false → test k ≡ true → LowestIs test (suc k) (cond (ltb x k) x (cond (test k) k (suc k)))
    found e y = rw (e, y) (none_below e, inl (omega arith, y))

    nothing : ltb x k ≡ false → test k ≡ false → LowestIs test (suc k) (cond (ltb x k) x (cond (test k) k (suc k)))
    nothing e y = rw (e, y) (λ p l. by_equal p k (λ q. ap test q ∙ y) (λ ne. none_below e p (omega arith)), inr refl)

-- The lowest place is so.
pub lowest_is : (test : ℕ → Bool) (k : ℕ) → LowestIs test k (lowest test k)
unfolding lowest
lowest_is test zero = (λ p l. absurd (omega arith), inr refl)
lowest_is test (suc k) = lowest_more test k (lowest test k) (lowest_is test k)

-- Where some place passes, the lowest is at most that one, and passes.
pub lowest_passes : (test : ℕ → Bool) (k p : ℕ) → p < k → test p ≡ true → (lowest test k ≤ p) × (lowest test k < k) × (test (lowest test k) ≡ true)
lowest_passes test k p l e = (most, omega (arith, most), ⊎_elim (λ q. q.1) (λ q. absurd (omega (arith, most))) is.1)
  where
    is : LowestIs test k (lowest test k)
    is = lowest_is test k

    most : lowest test k ≤ p
    most = by_test (ltb p (lowest test k)) (λ y. absurd (true≢false (sym e ∙ is.0 p (ltb-true p (lowest test k) y)))) (ltb-false p (lowest test k))

-- ---- the places that lead one nearer

-- A place that passes leads to its far end, at distance d.
pub leads_to_leads : (w : Ways) (row : List ℕ) (d i k : ℕ) → k < w.places → leads_to w row d i k ≡ true → Leads w k i (other_end w i k) × (at_node row (other_end w i k) ≡ d)
unfolding leads_to leads_by
leads_to_leads w row d i k h e = by (eqb (w.tail_at k) i) refl e
  where
    from_head : (c : Bool) → eqb (w.head_at k) i ≡ c → cond c (w.back k && eqb (at_node row (w.tail_at k)) d) false ≡ true → Leads w k i (w.tail_at k) × (at_node row (w.tail_at k) ≡ d)
    from_head true q y =
        let (open_back, far) = both_true (w.back k) (eqb (at_node row (w.tail_at k)) d) y in
        (behind h open_back (eqb-true (w.head_at k) i q) refl, eqb-true (at_node row (w.tail_at k)) d far)
    from_head false q y = absurd (true≢false (sym y))

    by : (b : Bool) → eqb (w.tail_at k) i ≡ b
        → cond b (w.fore k && eqb (at_node row (w.head_at k)) d) (cond (eqb (w.head_at k) i) (w.back k && eqb (at_node row (w.tail_at k)) d) false) ≡ true
        → Leads w k i (cond b (w.head_at k) (w.tail_at k)) × (at_node row (cond b (w.head_at k) (w.tail_at k)) ≡ d)
    by true q y =
        let (open_fore, far) = both_true (w.fore k) (eqb (at_node row (w.head_at k)) d) y in
        (ahead h open_fore (eqb-true (w.tail_at k) i q) refl, eqb-true (at_node row (w.head_at k)) d far)
    by false q y = from_head (eqb (w.head_at k) i) refl y

-- An open arc to another node at distance d passes, and that node is its far end.
pub leads_leads_to : (w : Ways) (row : List ℕ) (d i j k : ℕ) → Leads w k i j → (i ≡ j → ⊥) → at_node row j ≡ d → (leads_to w row d i k ≡ true) × (other_end w i k ≡ j)
unfolding leads_to leads_by
leads_leads_to w row d i j k (ahead b f t h) ne at =
    (rw (eq-eqb (w.tail_at k) i t, f, eq-eqb (at_node row (w.head_at k)) d (ap (at_node row) h ∙ at)), rw (eq-eqb (w.tail_at k) i t) h)
leads_leads_to w row d i j k (behind b f h t) ne at =
    let off : eqb (w.tail_at k) i ≡ false = ne_eqb (w.tail_at k) i (λ e. ne (sym e ∙ t)) in
    (rw (off, eq-eqb (w.head_at k) i h, f, eq-eqb (at_node row (w.tail_at k)) d (ap (at_node row) t ∙ at)), rw off t)

-- ---- the chain

-- An open arc is at a place.
pub leads_place : {w : Ways} {k i j : ℕ} → Leads w k i j → k < w.places
leads_place (ahead b f p q) = b
leads_place (behind b f p q) = b

-- A chain has at least as many arcs as its first node's label.
pub chain_long : (w : Ways) (n t : ℕ) (row : List ℕ) → Labels w n t row → {i : ℕ} {ls : List ℕ} → Chain w t i ls → at_node row i ≤ length ls
chain_long w n t row low arrived = omega (arith, low.at_sink)
chain_long w n t row low (step {i} {j} k lead rest) = omega (arith, low.valid k i j lead, chain_long w n t row low rest)

-- The chain has as many places as its first node's label.
pub chosen_long : (w : Ways) (row : List ℕ) (d i : ℕ) → length (chain_from w row d i) ≡ d
unfolding chain_from
chosen_long w row zero i = refl
chosen_long w row (suc d) i = ap suc (chosen_long w row d _)

-- A place that is found leads from node i to a node with the label d.
pub found_leads : (w : Ways) (row : List ℕ) (d i : ℕ) → next w row d i < w.places
    → Leads w (next w row d i) i (other_end w i (next w row d i)) × (at_node row (other_end w i (next w row d i)) ≡ d)
unfolding next
found_leads w row d i l =
    leads_to_leads w row d i (next w row d i) l (⊎_elim (λ p. p.1) (λ e. absurd (omega arith)) (lowest_is (leads_to w row d i) w.places).1)

module _ (w : Ways) (n t : ℕ) (ends : Ends n w) (row : List ℕ) (low : Labels w n t row) where
  -- Where the places chosen arrive, they are a chain,
  pub arrives_chain : (d i : ℕ) → Node n i → at_node row i ≡ d → arrives w row d i ≡ true → Chain w t i (chain_from w row d i)
  unfolding chain_from arrives
  arrives_chain zero i hi at e = subst (λ x. Chain w t x []) (sym (low.only_sink i hi at)) arrived
  arrives_chain (suc d) i hi at e =
      let (found, on) = both_true (ltb (next w row d i) w.places) (arrives w row d (other_end w i (next w row d i))) e in
      let there = found_leads w row d i (ltb-true (next w row d i) w.places found) in
      step (next w row d i) there.0
      (arrives_chain d (other_end w i (next w row d i)) (leads_within w n _ i _ ends there.0).1 there.1 on)

  -- One step of a chain with as many arcs as the label: its place is the chosen one or higher.
  first_step : (d i j k : ℕ) {ls : List ℕ} → at_node row i ≡ suc d → (lead : Leads w k i j) → Chain w t j ls → length ls ≡ d
      → ((x : ℕ) → at_node row x ≡ d → Chain w t x ls → Before (chain_from w row d x) ls)
      → Before (next w row d i ∷ chain_from w row d (other_end w i (next w row d i))) (k ∷ ls)
  unfolding next
  first_step d i j k {ls} at lead rest e on = by_equal (next w row d i) k same (λ ne. lower (omega (arith, found.0)))
    where
      far : at_node row j ≡ d
      far = omega (arith, low.valid k i j lead, chain_long w n t row low rest)

      passes : (leads_to w row d i k ≡ true) × (other_end w i k ≡ j)
      passes = leads_leads_to w row d i j k lead (λ q. omega (arith, ap (at_node row) q, far)) far

      found : (next w row d i ≤ k) × (next w row d i < w.places) × (leads_to w row d i (next w row d i) ≡ true)
      found = lowest_passes (leads_to w row d i) w.places k (leads_place lead) passes.0

      same : next w row d i ≡ k → Before (next w row d i ∷ chain_from w row d (other_end w i (next w row d i))) (k ∷ ls)
      same q =
          subst (λ x. Before (x ∷ chain_from w row d (other_end w i x)) (k ∷ ls)) (sym q)
          (alike
          (subst (λ x. Before (chain_from w row d x) ls) (sym passes.1) (on j far rest)))

  -- and first among the chains with as many arcs.
  pub chosen_first : (d i : ℕ) → at_node row i ≡ d → {ls : List ℕ} → Chain w t i ls → length ls ≡ d → Before (chain_from w row d i) ls
  unfolding chain_from
  chosen_first zero i at arrived e = ended
  chosen_first zero i at (step k lead rest) e = absurd (omega arith)
  chosen_first (suc d) i at arrived e = absurd (omega arith)
  chosen_first (suc d) i at (step {j = j} {ks = ls} k lead rest) e =
      let even : length ls ≡ d = omega arith in
      first_step d i j k at lead rest even (λ x far chain. chosen_first d x far chain even)

  -- Document 02's chain, where it arrives: no chain has fewer arcs, and of those with as many its places are lower at the first difference.
  pub arrives_first : (s : ℕ) → Node n s → arrives w row (at_node row s) s ≡ true → FirstChain w s t (chain_from w row (at_node row s) s)
  arrives_first s hs e =
      record {
        chain = arrives_chain (at_node row s) s hs refl e;
        fewest = λ ls chain. omega (arith, chosen_long w row (at_node row s) s, chain_long w n t row low chain);
        first = λ ls chain even. chosen_first (at_node row s) s refl chain (even ∙ chosen_long w row (at_node row s) s);
      }

module _ (w : Ways) (n t : ℕ) (ends : Ends n w) (row : List ℕ) (right : Distances w n t row) where
  -- From a node at distance suc d below n some place leads to distance d: the lowest.
  pub next_found : (d i : ℕ) → Node n i → at_node row i ≡ suc d → suc d < n → next w row d i < w.places
  unfolding next
  next_found d i hi at l =
      let (k, j, lead, far) = right.descends i d hi at l in
      let passes = leads_leads_to w row d i j k lead (λ e. omega (arith, ap (at_node row) e)) far in
      (lowest_passes (leads_to w row d i) w.places k (leads_place lead) passes.0).1

  -- So by the distances the chain arrives, from every node that is at a distance below n.
  pub distances_arrive : (d i : ℕ) → Node n i → at_node row i ≡ d → d < n → arrives w row d i ≡ true
  unfolding arrives
  distances_arrive zero i hi at l = refl
  distances_arrive (suc d) i hi at l =
      let found = next_found d i hi at l in
      let there = found_leads w row d i found in
      rw (lt-ltb (next w row d i) w.places found) (distances_arrive d (other_end w i (next w row d i)) (leads_within w n _ i _ ends there.0).1 there.1 (omega arith))

-- ---- there is only one such chain

-- Of two lists that begin, the one that comes before the other begins lower, or alike and goes on before it.
before_front : {k l : ℕ} {ks ls : List ℕ} → Before (k ∷ ks) (l ∷ ls) → (k < l) ⊎ ((k ≡ l) × Before ks ls)
before_front (lower l) = inl l
before_front (alike p) = inr (refl, p)

-- Two lists that begin are the same where each begins lower than the other or alike, and what follows is the same.
fronts_same : (k l : ℕ) (ks ls : List ℕ) → (Before ks ls → Before ls ks → ks ≡ ls) → (k < l) ⊎ ((k ≡ l) × Before ks ls) → (l < k) ⊎ ((l ≡ k) × Before ls ks)
    → k ∷ ks ≡ l ∷ ls
fronts_same k l ks ls same (inl m) (inl n) = absurd (omega arith)
fronts_same k l ks ls same (inl m) (inr n) = absurd (omega (arith, n.0))
fronts_same k l ks ls same (inr m) (inl n) = absurd (omega (arith, m.0))
fronts_same k l ks ls same (inr m) (inr n) = ap₂ (λ (r : ℕ) (rs : List ℕ). r ∷ rs) m.0 (same m.1 n.1)

-- Lists of places that come before each other are the same.
lists_same : (ks ls : List ℕ) → Before ks ls → Before ls ks → ks ≡ ls
lists_same [] [] p q = refl
lists_same [] (l ∷ ls) p q = elim p [ ]
lists_same (k ∷ ks) [] p q = elim p [ ]
lists_same (k ∷ ks) (l ∷ ls) p q = fronts_same k l ks ls (lists_same ks ls) (before_front p) (before_front q)

-- Places that come before each other are the same.
pub before_same : {ks ls : List ℕ} → Before ks ls → Before ls ks → ks ≡ ls
before_same {ks} {ls} p q = lists_same ks ls p q

-- So two chains that are first are the same.
pub first_chain_same : (w : Ways) (s t : ℕ) (ks ls : List ℕ) → FirstChain w s t ks → FirstChain w s t ls → ks ≡ ls
first_chain_same w s t ks ls a b =
    let even : length ls ≡ length ks = omega (arith, a.fewest ls b.chain, b.fewest ks a.chain) in
    before_same (a.first ls b.chain even) (b.first ks a.chain (sym even))
