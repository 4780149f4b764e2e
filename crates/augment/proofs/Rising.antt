-- Laws of relabelling: a label that rises as far as the open arcs let it leaves labels labels, and no place below one that is noted leads one nearer.
use Prim.Native.Nat.{ℕ, suc, ◌+◌, ◌-◌, ◌≤◌, ◌<◌}
use mathlib.Core.Path.{◌≡◌, refl, sym, ap, subst, ◌∙◌}
use mathlib.Core.Logic.{◌⊎◌, inl, inr}
use mathlib.Core.Bool.{true, false, true≢false, cond}
use mathlib.Core.List.{List}
use native.Mathlib.Omega.{arith}
use lib.Dec.{ltb}
use lib.ListN.{length, get_or, set, length-set}
use Rattle.rows.specs.Row.{at_place, at_node, Node}
use Rattle.rows.proofs.Sums.{by_test, by_equal}
use Rattle.reach.proofs.Visiting.{left_test}
use Rattle.minimums.specs.BoundedTable.{bounded_of}
use Rattle.shortest.specs.Ways.{Ways, Leads, ahead, behind, other_end}
use Rattle.shortest.specs.Distance.{leads_to}
use Rattle.shortest.specs.Labels.{Labels}
use Rattle.shortest.specs.Rows.{row_ways, Rows}
use Rattle.shortest.proofs.Ends.{Ends, leads_within}
use Rattle.shortest.proofs.Laying.{set_there, set_elsewhere}
use Rattle.shortest.proofs.Chains.{leads_to_leads, leads_leads_to}
use Rattle.augment.specs.Walks.{Noted, Known, RiseOver, Rise, Relabelled}
use Rattle.augment.proofs.Walking.{nowhere_noted}

-- ---- `rise_over`

module _ {w : Ways} {n t : ℕ} {row : List ℕ} (low : Labels w n t row) {i k : ℕ} (hi : Node n i) (here : k < w.places) where
  -- By an arc that leaves node i,
  over_tail : {v : ℕ} → (w.tail_at k ≡ i) → (w.head_at k ≡ i → ⊥) → v ≡ cond (w.fore k) (at_node row (w.head_at k) + 1) n → RiseOver w row i k v
  over_tail {v} from not_into is =
      record {
        up =
            by_test (w.fore k)
            (λ e. omega (arith, above e, low.valid k i (w.head_at k) (ahead here e from refl)))
            (λ e. omega (arith, subst (λ b. v ≡ cond b (at_node row (w.head_at k) + 1) n) e is, low.at_most i hi));
        down = over;
      }
    where
      above : w.fore k ≡ true → v ≡ at_node row (w.head_at k) + 1
      above e = subst (λ b. v ≡ cond b (at_node row (w.head_at k) + 1) n) e is

      over : (j : ℕ) → Leads w k i j → v ≤ at_node row j + 1
      over j (ahead l e p q) = omega (arith, above e, ap (at_node row) q)
      over j (behind l e p q) = absurd (not_into p)

  -- and by one that enters it.
  over_head : {v : ℕ} → (w.tail_at k ≡ i → ⊥) → (w.head_at k ≡ i) → v ≡ cond (w.back k) (at_node row (w.tail_at k) + 1) n → RiseOver w row i k v
  over_head {v} not_from into is =
      record {
        up =
            by_test (w.back k)
            (λ e. omega (arith, above e, low.valid k i (w.tail_at k) (behind here e into refl)))
            (λ e. omega (arith, subst (λ b. v ≡ cond b (at_node row (w.tail_at k) + 1) n) e is, low.at_most i hi));
        down = over;
      }
    where
      above : w.back k ≡ true → v ≡ at_node row (w.tail_at k) + 1
      above e = subst (λ b. v ≡ cond b (at_node row (w.tail_at k) + 1) n) e is

      over : (j : ℕ) → Leads w k i j → v ≤ at_node row j + 1
      over j (ahead l e p q) = absurd (not_from p)
      over j (behind l e p q) = omega (arith, above e, ap (at_node row) q)

module _ {n s u t : ℕ} {tails heads capacities minimums flow row : List ℕ} (rows : Rows (bounded_of n s u tails heads capacities minimums) flow)
    (low : Labels (row_ways tails heads capacities minimums flow) n t row) {i k : ℕ} (hi : Node n i) (here : k < length capacities) where
  -- The arc has two ends.
  apart : get_or tails k 0 ≡ get_or heads k 0 → ⊥
  apart = rows.arcs.ends.no_loop k (omega (arith, rows.arcs.capacities_long))

  -- As the code has the numbers: away from the tail,
  pub rise_tail : {v : ℕ} → get_or tails k 0 ≡ i → v ≡ cond (ltb (get_or flow k 0) (get_or capacities k 0)) (at_node row (get_or heads k 0) + 1) n
      → RiseOver (row_ways tails heads capacities minimums flow) row i k v
  rise_tail {v} from is =
      over_tail low hi here from (λ e. apart (from ∙ sym e))
      (subst (λ b. v ≡ cond b (at_node row (get_or heads k 0) + 1) n) (left_test (get_or flow k 0) (get_or capacities k 0)) is)

  -- and away from the head.
  pub rise_head : {v : ℕ} → (get_or tails k 0 ≡ i → ⊥) → (get_or tails k 0 ≡ i) ⊎ (get_or heads k 0 ≡ i)
      → v ≡ cond (ltb (get_or minimums k 0) (get_or flow k 0)) (at_node row (get_or tails k 0) + 1) n → RiseOver (row_ways tails heads capacities minimums flow) row i k v
  rise_head not_from (inl from) is = absurd (not_from from)
  rise_head {v} not_from (inr into) is =
      over_head low hi here not_from into
      (subst (λ b. v ≡ cond b (at_node row (get_or tails k 0) + 1) n) (left_test (get_or minimums k 0) (get_or flow k 0)) is)

-- ---- `rise_to`

-- What the first p arcs of a list let node i's label rise to.
pub record Rising (w : Ways) (n : ℕ) (row list : List ℕ) (i v p : ℕ) : Type 0 where
  pub at_most : v ≤ n
  pub up : at_node row i ≤ v
  pub down : (q j : ℕ) → q < p → Leads w (at_place list q) i j → v ≤ at_node row j + 1

-- ---- `relabel`

module _ {w : Ways} {n t : ℕ} (ends : Ends n w) (ht : Node n t) {row : List ℕ} (low : Labels w n t row) {i v : ℕ} (hi : Node n i) (away : 0 < at_node row i)
    (rise : Rise w n row i v) where
  -- What is set there,
  raised_here : at_node (set row (i - 1) v) i ≡ v
  raised_here = set_there row i v (subst (λ l. Node l i) (sym low.long) hi)

  -- what stays,
  raised_away : (x : ℕ) → Node n x → (x ≡ i → ⊥) → at_node (set row (i - 1) v) x ≡ at_node row x
  raised_away x hx ne = set_elsewhere row i v x hi.0 hx.0 ne

  -- and none falls.
  raised_up : (x : ℕ) → Node n x → at_node row x ≤ at_node (set row (i - 1) v) x
  raised_up x hx =
      by_equal x i
      (λ e. omega (arith, ap (at_node row) e, ap (at_node (set row (i - 1) v)) e, raised_here, rise.up))
      (λ ne. omega (arith, raised_away x hx ne))

  -- Labels stay labels.
  pub raised_labels : Labels w n t (set row (i - 1) v)
  raised_labels =
      record {
        long = length-set row (i - 1) v ∙ low.long;
        at_most = λ x hx.
            by_equal x i
            (λ e. omega (arith, ap (at_node (set row (i - 1) v)) e, raised_here, rise.at_most))
            (λ ne. omega (arith, raised_away x hx ne, low.at_most x hx));
        at_sink = raised_away t ht (λ e. omega (arith, away, low.at_sink, ap (at_node row) e)) ∙ low.at_sink;
        only_sink = λ x hx z. low.only_sink x hx (omega (arith, raised_up x hx, z));
        valid = λ k x y lead.
            let nodes = leads_within w n k x y ends lead in
            by_equal x i
            (λ e.
            omega (
              arith,
              ap (at_node (set row (i - 1) v)) e,
              raised_here,
              rise.down k y (subst (λ z. Leads w k z y) e lead),
              raised_up y nodes.1,
            ))
            (λ ne. omega (arith, raised_away x nodes.0 ne, low.valid k x y lead, raised_up y nodes.1));
      }

  -- What is noted for the other nodes holds still: an arc that did not lead one nearer does not lead to a label that has risen to that.
  pub raised_noted : {lowest far : List ℕ} → Noted w n row lowest far → w.places ≤ at_node lowest i → Noted w n (set row (i - 1) v) lowest far
  raised_noted {lowest} noted past =
      record {
        none_lower = λ x d p hx ax here below.
            by_equal x i
            (λ e. absurd (omega (arith, here, past, ap (at_node lowest) e)))
            (λ ne. still x d p hx (sym (raised_away x hx ne) ∙ ax) (omega (arith, here, below)) (noted.none_lower x d p hx (sym (raised_away x hx ne) ∙ ax) here below));
        far_end = noted.far_end;
      }
    where
      still : (x d p : ℕ) → Node n x → at_node row x ≡ suc d → p < w.places → leads_to w row d x p ≡ false → leads_to w (set row (i - 1) v) d x p ≡ false
      still x d p hx ax l old =
          by_test (leads_to w (set row (i - 1) v) d x p)
          (λ yes.
          let (lead, far) = leads_to_leads w (set row (i - 1) v) d x p l yes in
          let same : at_node row (other_end w x p) ≡ d = omega (arith, far, raised_up (other_end w x p) (leads_within w n p x (other_end w x p) ends lead).1, low.valid p x (other_end w x p) lead, ax) in
          absurd (true≢false (sym (leads_leads_to w row d x (other_end w x p) p lead (λ q. omega (arith, ap (at_node row) q, same, ax)) same).0 ∙ old)))
          (λ no. no)

-- What is known stays known.
pub relabelled_known : {w : Ways} {n t : ℕ} → Ends n w → Node n t → {i : ℕ} {dist lowest far dist' lowest' : List ℕ} → Node n i → 0 < at_node dist i → length lowest ≡ n
    → Known w n t dist lowest far → Relabelled w n i dist lowest dist' lowest' → Known w n t dist' lowest' far
relabelled_known {w} {n} {t} ends ht {i} {dist} {lowest} {far} {dist'} {lowest'} hi away long known done =
    subst (λ r. Known w n t r lowest' far) (sym done.labels)
    (subst (λ l. Known w n t (set dist (i - 1) done.label) l far) (sym done.places)
    (record {
      labels = raised_labels ends ht known.labels hi away done.rises;
      noted =
          raised_noted ends ht known.labels hi away done.rises
          (nowhere_noted known.noted (at_node dist i - 1) i w.places hi (omega (arith, away)) long (omega arith))
          (omega (arith, set_there lowest i w.places (subst (λ l. Node l i) (sym long) hi)));
    }))
