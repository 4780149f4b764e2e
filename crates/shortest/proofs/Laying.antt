-- The distances by rounds are right: 0 at the sink alone, at most one more than at the far end of any open arc, and one more than at the far end of some open arc.
use Prim.Native.Nat.{ℕ, zero, suc, ◌+◌, ◌-◌, ◌≤◌, ◌<◌}
use mathlib.Core.Path.{◌≡◌, refl, sym, ap, subst, ◌∙◌}
use mathlib.Core.Logic.{◌⊎◌, inl, inr, ⊎_elim}
use mathlib.Core.Bool.{Bool, true, false}
use mathlib.Core.List.{List}
use native.Mathlib.Omega.{arith}
use lib.ListN.{length, set, replicate, length-set, length-replicate, get_or-replicate}
use lib.Seq.{get_or-set_same, get_or-set_other, ext_get_or}
use lib.Dec.{eqb, ltb}
use borrow.Author.Tests.{ltb-true, ltb-false, eqb-true, eq-eqb}
use Rattle.rows.proofs.Rows.{node_at}
use Rattle.rows.proofs.Sums.{by_test, by_equal}
use Rattle.rows.specs.Row.{at_node, Node}
use Rattle.shortest.specs.Ways.{Ways, Leads, ahead, behind}
use Rattle.shortest.specs.Distance.{lay, lay_to, rounds, distances}
use Rattle.shortest.specs.Labels.{Labels, Distances}
use Rattle.shortest.proofs.Ends.{Ends, leads_within}

-- ---- one node's distance

-- A number set at node i: there it is, and elsewhere all is as it was.
pub set_there : (row : List ℕ) (i v : ℕ) → Node (length row) i → at_node (set row (i - 1) v) i ≡ v
set_there row i v h = node_at (set row (i - 1) v) i h.0 ∙ get_or-set_same row (i - 1) v 0 (omega (arith, h.0, h.1))

-- Elsewhere all is as it was.
pub set_elsewhere : (row : List ℕ) (i v x : ℕ) → 1 ≤ i → 1 ≤ x → (x ≡ i → ⊥) → at_node (set row (i - 1) v) x ≡ at_node row x
set_elsewhere row i v x hi hx ne =
    node_at (set row (i - 1) v) x hx ∙ get_or-set_other row (i - 1) (x - 1) v 0 (λ e. ne (omega arith)) ∙ sym (node_at row x hx)

-- What `lay` did: nothing, or node i had no distance, j has d, and i has d + 1 now.
lay_cases : (n d : ℕ) (may : Bool) (i j : ℕ) (row : List ℕ)
    → (lay n d may i j row ≡ row) ⊎ ((may ≡ true) × (at_node row j ≡ d) × (at_node row i ≡ n) × (lay n d may i j row ≡ set row (i - 1) (d + 1)))
unfolding lay
lay_cases n d false i j row = inl refl
lay_cases n d true i j row =
    by_test (eqb (at_node row j) d)
    (λ p. by_test (eqb (at_node row i) n)
    (λ q. inr (refl, eqb-true (at_node row j) d p, eqb-true (at_node row i) n q, rw (p, q)))
    (λ q. inl (rw (p, q))))
    (λ p. inl (rw p))

-- An open way to a node at distance d leaves its near end with a distance.
lay_laid : (n d : ℕ) (may : Bool) (i j : ℕ) (row : List ℕ) → may ≡ true → at_node row j ≡ d → at_node row i ≡ n → lay n d may i j row ≡ set row (i - 1) (d + 1)
unfolding lay
lay_laid n d may i j row e p q = rw (e, eq-eqb (at_node row j) d p, eq-eqb (at_node row i) n q)

-- ---- a row of distances

-- The distances are right as far as the rounds below d tell: n stands for none yet.
pub record Laid (w : Ways) (n t d : ℕ) (row : List ℕ) : Type 0 where
  pub long : length row ≡ n
  pub range : (i : ℕ) → Node n i → (at_node row i ≤ d) ⊎ (at_node row i ≡ n)
  pub at_sink : at_node row t ≡ 0
  pub only_sink : (i : ℕ) → Node n i → at_node row i ≡ 0 → i ≡ t
  pub valid : (k i j : ℕ) → Leads w k i j → at_node row j < d → at_node row i ≤ at_node row j + 1
  pub descends : (i e : ℕ) → Node n i → at_node row i ≡ suc e → suc e < n → (k : ℕ) × (j : ℕ) × Leads w k i j × (at_node row j ≡ e)

module _ (w : Ways) (n t d : ℕ) (ends : Ends n w) (ht : Node n t) (below : d < n) (row₀ : List ℕ) (so : Laid w n t d row₀) where
  -- Node x is as it was before the round, or had no distance and has d + 1 now, by an open arc to a node at distance d.
  Step : List ℕ → ℕ → Type 0
  Step row x = (at_node row x ≡ at_node row₀ x) ⊎ ((at_node row₀ x ≡ n) × (at_node row x ≡ d + 1) × ((k : ℕ) × (j : ℕ) × Leads w k x j × (at_node row₀ j ≡ d)))

  -- In a round, after the places below k.
  record Mid (k : ℕ) (row : List ℕ) : Type 0 where
    long : length row ≡ n
    steps : (x : ℕ) → Node n x → Step row x
    handled : (p i j : ℕ) → p < k → Leads w p i j → at_node row₀ j ≡ d → at_node row i ≤ d + 1

  -- A node at distance d was so before the round.
  was : (row : List ℕ) (x : ℕ) → Step row x → at_node row x ≡ d → at_node row₀ x ≡ d
  unfolding Step
  was row x (inl same) e = sym same ∙ e
  was row x (inr new) e = absurd (omega (arith, new.1))

  -- And one at distance d before it still is.
  still : (row : List ℕ) (x e : ℕ) → Step row x → at_node row₀ x ≡ e → e < n → at_node row x ≡ e
  unfolding Step
  still row x e (inl same) p l = same ∙ p
  still row x e (inr new) p l = absurd (omega (arith, new.0))

  -- A distance is at most d + 1, or there is none.
  small : (row : List ℕ) (x : ℕ) → Node n x → Step row x → (at_node row x ≤ d + 1) ⊎ (at_node row x ≡ n)
  unfolding Step
  small row x hx (inl same) = ⊎_elim (λ l. inl (omega arith)) (λ e. inr (same ∙ e)) (so.range x hx)
  small row x hx (inr new) = inl (omega (arith, new.1))

  -- One way of an arc that is open keeps this, and gives its near end a distance.
  module _ (k i j : ℕ) (may : Bool) (leads : may ≡ true → Leads w k i j) (hi : Node n i) (hj : Node n j) (row : List ℕ) (long : length row ≡ n)
      (steps : (x : ℕ) → Node n x → Step row x) where
    lay_long : length (lay n d may i j row) ≡ n
    lay_long = ⊎_elim (λ e. ap length e ∙ long) (λ c. ap length c.3 ∙ length-set row (i - 1) (d + 1) ∙ long) (lay_cases n d may i j row)

    -- Node i has d + 1 then.
    laid_there : (c : (may ≡ true) × (at_node row j ≡ d) × (at_node row i ≡ n) × (lay n d may i j row ≡ set row (i - 1) (d + 1))) → at_node (lay n d may i j row) i ≡ d + 1
    laid_there c = ap (λ r. at_node r i) c.3 ∙ set_there row i (d + 1) (subst (λ l. Node l i) (sym long) hi)

    -- Every other node has what it had.
    laid_elsewhere : (c : (may ≡ true) × (at_node row j ≡ d) × (at_node row i ≡ n) × (lay n d may i j row ≡ set row (i - 1) (d + 1)))
        → (x : ℕ) → Node n x → (x ≡ i → ⊥) → at_node (lay n d may i j row) x ≡ at_node row x
    laid_elsewhere c x hx ne = ap (λ r. at_node r x) c.3 ∙ set_elsewhere row i (d + 1) x hi.0 hx.0 ne

    -- Node i had no distance before the round either.
    none_before : Step row i → at_node row i ≡ n → at_node row₀ i ≡ n
    unfolding Step
    none_before (inl same) e = sym same ∙ e
    none_before (inr new) e = new.0

    -- Every node is as before the round, or got d + 1 by an open arc.
    lay_steps : (x : ℕ) → Node n x → Step (lay n d may i j row) x
    unfolding Step
    lay_steps x hx =
        ⊎_elim
        (λ e. subst (λ r. Step r x) (sym e) (steps x hx))
        (λ c. by_equal x i
        (λ e. subst (Step (lay n d may i j row)) (sym e)
        (inr (none_before (steps i hi) c.2, laid_there c, (k, j, leads c.0, was row j (steps j hj) c.1))))
        (λ ne. ⊎_elim (λ same. inl (laid_elsewhere c x hx ne ∙ same))
        (λ new. inr (new.0, laid_elsewhere c x hx ne ∙ new.1, new.2)) (steps x hx)))
        (lay_cases n d may i j row)

    -- What has a distance of at most d + 1 keeps one.
    lay_kept : (x : ℕ) → Node n x → at_node row x ≤ d + 1 → at_node (lay n d may i j row) x ≤ d + 1
    lay_kept x hx l =
        ⊎_elim
        (λ e. omega (arith, ap (λ r. at_node r x) e))
        (λ c. by_equal x i
        (λ e. omega (arith, laid_there c, ap (at_node (lay n d may i j row)) e))
        (λ ne. omega (arith, laid_elsewhere c x hx ne)))
        (lay_cases n d may i j row)

    -- The near end of an open way to distance d has one.
    lay_handled : may ≡ true → at_node row₀ j ≡ d → at_node (lay n d may i j row) i ≤ d + 1
    lay_handled e at =
        ⊎_elim
        (λ l. lay_kept i hi l)
        (λ none. let there = ap (λ r. at_node r i) (lay_laid n d may i j row e (still row j d (steps j hj) at below) none)
        ∙ set_there row i (d + 1) (subst (λ l. Node l i) (sym long) hi) in
        omega (arith, there))
        (small row i hi (steps i hi))

  -- One arc, both ways.
  mid_next : (k : ℕ) (row : List ℕ) → k < w.places → Mid k row
      → Mid (suc k) (lay n d (w.back k) (w.head_at k) (w.tail_at k) (lay n d (w.fore k) (w.tail_at k) (w.head_at k) row))
  mid_next k row h mid =
      record {
        long = lay_long k head tail (w.back k) leads_back hh hti half half_long half_steps;
        steps = lay_steps k head tail (w.back k) leads_back hh hti half half_long half_steps;
        handled = λ p i j l lead at.
            by_equal p k
            (λ e. now i j (subst (λ q. Leads w q i j) e lead) at)
            (λ ne.
            let hi = (leads_within w n p i j ends lead).0 in
            keep i hi (keep_half i hi (mid.handled p i j (omega arith) lead at)));
      }
    where
      tail : ℕ
      tail = w.tail_at k

      head : ℕ
      head = w.head_at k

      hti : Node n (w.tail_at k)
      hti = ends.tail_within k h

      hh : Node n (w.head_at k)
      hh = ends.head_within k h

      leads_fore : w.fore k ≡ true → Leads w k (w.tail_at k) (w.head_at k)
      leads_fore f = ahead h f refl refl

      leads_back : w.back k ≡ true → Leads w k (w.head_at k) (w.tail_at k)
      leads_back f = behind h f refl refl

      half : List ℕ
      half = lay n d (w.fore k) (w.tail_at k) (w.head_at k) row

      half_long : length half ≡ n
      half_long = lay_long k (w.tail_at k) (w.head_at k) (w.fore k) leads_fore hti hh row mid.long mid.steps

      half_steps : (x : ℕ) → Node n x → Step half x
      half_steps = lay_steps k (w.tail_at k) (w.head_at k) (w.fore k) leads_fore hti hh row mid.long mid.steps

      keep_half : (x : ℕ) → Node n x → at_node row x ≤ d + 1 → at_node half x ≤ d + 1
      keep_half = lay_kept k (w.tail_at k) (w.head_at k) (w.fore k) leads_fore hti hh row mid.long mid.steps

      whole : List ℕ
      whole = lay n d (w.back k) (w.head_at k) (w.tail_at k) half

      keep : (x : ℕ) → Node n x → at_node half x ≤ d + 1 → at_node whole x ≤ d + 1
      keep = lay_kept k (w.head_at k) (w.tail_at k) (w.back k) leads_back hh hti half half_long half_steps

      now : (i j : ℕ) → Leads w k i j → at_node row₀ j ≡ d → at_node whole i ≤ d + 1
      now i j (ahead b f ti hj) at =
          subst (λ x. at_node whole x ≤ d + 1) ti
          (keep (w.tail_at k) hti
          (lay_handled k (w.tail_at k) (w.head_at k) (w.fore k) leads_fore hti hh row mid.long mid.steps f (ap (at_node row₀) hj ∙ at)))
      now i j (behind b f hi tj) at =
          subst (λ x. at_node whole x ≤ d + 1) hi
          (lay_handled k (w.head_at k) (w.tail_at k) (w.back k) leads_back hh hti half half_long half_steps f (ap (at_node row₀) tj ∙ at))

  -- The places below k are looked at.
  mid_at : (k : ℕ) → k ≤ w.places → Mid k (lay_to w n d k row₀)
  unfolding lay_to Step
  mid_at zero h = record { long = so.long; steps = λ x hx. inl refl; handled = λ p i j l. absurd (omega arith) }
  mid_at (suc k) h = mid_next k (lay_to w n d k row₀) h (mid_at k (omega arith))

  -- After all places the distances are right one round more.
  done_laid : (row : List ℕ) → Mid w.places row → Laid w n t (suc d) row
  unfolding Step
  done_laid row mid =
      record {
        long = mid.long;
        range = λ i hi. ⊎_elim (λ l. inl (omega arith)) (λ e. inr e) (small row i hi (mid.steps i hi));
        at_sink = still row t 0 (mid.steps t ht) so.at_sink (omega arith);
        only_sink = λ i hi e. so.only_sink i hi (⊎_elim (λ same. sym same ∙ e) (λ new. absurd (omega (arith, new.1))) (mid.steps i hi));
        valid = λ k i j lead l. valid_at k i j lead l;
        descends = λ i e hi at l.
            ⊎_elim
            (λ same. let (k, j, lead, far) = so.descends i e hi (sym same ∙ at) l in
            (k, j, lead, still row j e (mid.steps j (leads_within w n k i j ends lead).1) far (omega arith)))
            (λ new. let (k, j, lead, far) = new.2 in
            let same_d : d ≡ e = omega (arith, new.1) in
            (k, j, lead, still row j d (mid.steps j (leads_within w n k i j ends lead).1) far below ∙ same_d))
            (mid.steps i hi);
      }
    where
      valid_at : (k i j : ℕ) → Leads w k i j → at_node row j < suc d → at_node row i ≤ at_node row j + 1
      valid_at k i j lead l =
          by_equal (at_node row j) d
          (λ e. omega (arith, mid.handled k i j (leads_place lead) lead (was row j (mid.steps j hj) e)))
          (λ ne. ⊎_elim
          (λ same. let v = so.valid k i j lead (omega arith) in
          let s = still row i (at_node row₀ i) (mid.steps i hi) refl (omega arith) in
          omega arith)
          (λ new. absurd (omega (arith, new.1)))
          (mid.steps j hj))
        where
          hi : Node n i
          hi = (leads_within w n k i j ends lead).0

          hj : Node n j
          hj = (leads_within w n k i j ends lead).1

          leads_place : Leads w k i j → k < w.places
          leads_place (ahead b f p q) = b
          leads_place (behind b f p q) = b

  -- A whole round.
  round_laid : Laid w n t (suc d) (lay_to w n d w.places row₀)
  round_laid = done_laid (lay_to w n d w.places row₀) (mid_at w.places (omega arith))
  -- ---- the same by the nodes' lists

-- ---- all rounds

-- Before any round: 0 at the sink, none elsewhere.
module _ (w : Ways) (n t : ℕ) (ht : Node n t) where
  -- The sink has 0, and every other node none.
  start_at : (x : ℕ) → Node n x → ((x ≡ t) × (at_node (set (replicate n n) (t - 1) 0) x ≡ 0)) ⊎ (at_node (set (replicate n n) (t - 1) 0) x ≡ n)
  start_at x hx =
      by_equal x t
      (λ e. inl (e, ap (at_node (set (replicate n n) (t - 1) 0)) e ∙ set_there (replicate n n) t 0 (subst (λ l. Node l t) (sym (length-replicate n n)) ht)))
      (λ ne. inr (set_elsewhere (replicate n n) t 0 x ht.0 hx.0 ne ∙ node_at (replicate n n) x hx.0 ∙ get_or-replicate n (x - 1) n 0 (omega (arith, hx.0, hx.1))))

  -- That is right as far as no round tells.
  pub start_laid : Laid w n t 0 (set (replicate n n) (t - 1) 0)
  start_laid =
      record {
        long = length-set (replicate n n) (t - 1) 0 ∙ length-replicate n n;
        range = λ i hi. ⊎_elim (λ p. inl (omega (arith, p.1))) (λ e. inr e) (start_at i hi);
        at_sink = ⊎_elim (λ p. p.1) (λ e. set_there (replicate n n) t 0 (subst (λ l. Node l t) (sym (length-replicate n n)) ht)) (start_at t ht);
        only_sink = λ i hi z. ⊎_elim (λ p. p.0) (λ e. absurd (omega (arith, ht.0, ht.1))) (start_at i hi);
        valid = λ k i j lead l. absurd (omega arith);
        descends = λ i e hi at l. ⊎_elim (λ p. absurd (omega (arith, p.1))) (λ q. absurd (omega arith)) (start_at i hi);
      }

-- Distances that are right after n rounds are right.
laid_all : (w : Ways) (n t : ℕ) → Ends n w → (row : List ℕ) → Laid w n t n row → Distances w n t row
laid_all w n t ends row so =
    record {
      labels = record {
        long = so.long;
        at_most = most;
        at_sink = so.at_sink;
        only_sink = so.only_sink;
        valid = λ k i j lead.
            let (hi, hj) = leads_within w n k i j ends lead in
            by_equal (at_node row j) n
            (λ e. omega (arith, most i hi))
            (λ ne. so.valid k i j lead (⊎_elim (λ l. omega arith) (λ e. absurd (ne e)) (so.range j hj)));
      };
      descends = so.descends;
    }
  where
    most : (i : ℕ) → Node n i → at_node row i ≤ n
    most i hi = ⊎_elim (λ l. l) (λ e. omega arith) (so.range i hi)

module _ (w : Ways) (n t : ℕ) (ends : Ends n w) (ht : Node n t) where
  -- After d rounds the distances are right as far as these tell.
  rounds_laid : (d : ℕ) → d ≤ n → Laid w n t d (rounds w n d (set (replicate n n) (t - 1) 0))
  unfolding rounds
  rounds_laid zero h = start_laid w n t ht
  rounds_laid (suc d) h = round_laid w n t d ends ht h (rounds w n d (set (replicate n n) (t - 1) 0)) (rounds_laid d (omega arith))

  -- The distances by rounds are right,
  pub distances_right : Distances w n t (distances w n t)
  unfolding distances
  distances_right = laid_all w n t ends (rounds w n n (set (replicate n n) (t - 1) 0)) (rounds_laid n (omega arith))

  -- No label is above a right distance: by the arc that leads one nearer.
  pub never_above : (a b : List ℕ) → Labels w n t a → Distances w n t b → (e i : ℕ) → Node n i → at_node b i ≡ e → at_node a i ≤ e
  never_above a b low rb zero i hi at = omega (arith, ap (at_node a) (rb.labels.only_sink i hi at), low.at_sink)
  never_above a b low rb (suc e) i hi at =
      by_test (ltb (suc e) n)
      (λ y.
      let (k, j, lead, far) = rb.descends i e hi at (ltb-true (suc e) n y) in
      omega (arith, low.valid k i j lead, never_above a b low rb e j (leads_within w n k i j ends lead).1 far))
      (λ y. let past = ltb-false (suc e) n y in omega (arith, low.at_most i hi))

  -- So whoever measures rightly, in whatever order, has the distances.
  pub only_distances : (row : List ℕ) → Distances w n t row → row ≡ distances w n t
  only_distances row right =
      ext_get_or 0 row (distances w n t) (right.labels.long ∙ sym distances_right.labels.long)
      (λ k l.
      let hi : Node n (suc k) = omega (arith, right.labels.long) in
      omega (
        arith,
        never_above row (distances w n t) right.labels distances_right (at_node (distances w n t) (suc k)) (suc k) hi refl,
        never_above (distances w n t) row distances_right.labels right (at_node row (suc k)) (suc k) hi refl,
      ))
