-- What the arc search and the relabel's least label answer.
use Rattle.std.specs.Prelude.{Option, Some, None}
use Prim.Native.Nat.{ℕ, ◌+◌, ◌≤◌, ◌<◌, min}
use mathlib.Core.Path.{◌≡◌, refl, ap, ap₂, sym, subst, ◌∙◌}
use mathlib.Core.Bool.{Bool, true, false, true≢false, ◌&&◌}
use mathlib.Core.List.Memᴰ
use mathlib.Core.List.{List, [], ◌∷◌, Memᴰ}
use mathlib.Core.Logic.{◌⊎◌, inl, inr, ⊎_elim}
use native.Mathlib.Omega.{arith}
use borrow.Author.Tests.{ltb-true, ltb-false, lt-ltb, eqb-true, eq-eqb}
use lib.Dec.{eqb, ltb}
use Rattle.rows.specs.Row.{at_node, at_place, Node}
use Rattle.rows.proofs.Sums.{by_test, both_true}
use Rattle.network.specs.Network.{near_end, far_end, residual_over, Sound}
use Rattle.network.proofs.Notions.{ResidualFrom, far_end_node}
use Rattle.network.proofs.Steps.{Eligible, NewLabel}
use Rattle.table.specs.Table.{Table, arcs, network_of}
use Rattle.arcs.specs.Residual.{way, far, residual, list}
use Rattle.run.specs.Start.{State}
use Rattle.run.specs.Push.{eligible, first_eligible}
use Rattle.run.specs.Relabel.{lesser, least_far, top, new_label}
use Rattle.run.proofs.Networks.{functions_of, by_cond}
use Rattle.arcs.proofs.Members.{list_touches, touches_list, start_way, start_touches, member_start}

module _ (t : Table) (st : State) (i : ℕ) where
  -- What a search of the list l answers: an eligible member, or that there is none.
  abbrev Finds : List ℕ → Option ℕ → Type 0
  Finds l (Some k) = Memᴰ k l × (eligible t st i k ≡ true)
  Finds l None = (k : ℕ) → Memᴰ k l → eligible t st i k ≡ false

  -- One more place in front, which is not eligible.
  finds_on : (k : ℕ) (l : List ℕ) (f : Option ℕ) → eligible t st i k ≡ false → Finds l f → Finds (k ∷ l) f
  finds_on k l (Some j) e (member, yes') = (Memᴰ.tail member, yes')
  finds_on k l None e none = λ j member. ⊎_elim (λ same. ap (eligible t st i) same ∙ e) (none j) (Memᴰ.cases_cons member)

  -- The search for an eligible arc answers so.
  finds : (l : List ℕ) → Finds l (first_eligible t st i l)
  unfolding first_eligible
  finds [] = λ k member. absurd (Memᴰ.not-nil member)
  finds (k ∷ l) =
      by_cond (Finds (k ∷ l)) (eligible t st i k) (Some k) (first_eligible t st i l)
      (λ e. (Memᴰ.head refl, e)) (λ e. finds_on k l (first_eligible t st i l) e (finds l))

  -- The place found is in the list and eligible.
  pub found_place : (l : List ℕ) (k : ℕ) → first_eligible t st i l ≡ Some k → Memᴰ k l × (eligible t st i k ≡ true)
  found_place l k e = subst (Finds l) e (finds l)

  -- Where none is found no member is eligible.
  found_missing : (l : List ℕ) → first_eligible t st i l ≡ None → (k : ℕ) → Memᴰ k l → eligible t st i k ≡ false
  found_missing l e = subst (Finds l) e (finds l)

  -- One place does not raise the least label.
  pub lesser_le : (k best : ℕ) → lesser t st i k best ≤ best
  lesser_le k best =
      by_cond (λ x. x ≤ best) (ltb 0 (residual t st.flow i k)) (min best (at_node st.label (far t i k))) best
      (λ _. omega arith) (λ _. omega arith)

  -- Where it has residual, the least label is at most its far end's.
  pub lesser_far : (k best : ℕ) → 0 < residual t st.flow i k → lesser t st i k best ≤ at_node st.label (far t i k)
  lesser_far k best some =
      by_cond (λ x. x ≤ at_node st.label (far t i k)) (ltb 0 (residual t st.flow i k)) (min best (at_node st.label (far t i k))) best
      (λ _. omega arith) (λ e. absurd (omega (arith, ltb-false 0 (residual t st.flow i k) e)))

  -- The least label of a list is at most the one that it began with,
  pub least_le : (l : List ℕ) (best : ℕ) → least_far t st i l best ≤ best
  unfolding least_far
  least_le [] best = omega arith
  least_le (k ∷ l) best = omega (arith, least_le l (lesser t st i k best), lesser_le k best)

  -- and at most each residual member's far label.
  least_far_lem : (l : List ℕ) (best k : ℕ) → Memᴰ k l → 0 < residual t st.flow i k → least_far t st i l best ≤ at_node st.label (far t i k)
  unfolding least_far
  least_far_lem [] best k member some = absurd (Memᴰ.not-nil member)
  least_far_lem (j ∷ l) best k member some =
      ⊎_elim
      (λ same.
      omega (
        arith,
        least_le l (lesser t st i j best),
        lesser_far j best (subst (λ (x : ℕ). 0 < residual t st.flow i x) same some),
        ap (λ x. at_node st.label (far t i x)) same,
      ))
      (λ later. least_far_lem l (lesser t st i j best) k later some)
      (Memᴰ.cases_cons member)

  -- A residual member with this far label.
  pub record AtFarEnd (l : List ℕ) (x : ℕ) : Type 0 where
    pub place : ℕ
    pub member : Memᴰ place l
    pub left : 0 < residual t st.flow i place
    pub label : x ≡ at_node st.label (far t i place)

  -- The least label after one place is the one before, or its far end's.
  lesser_is : (k best : ℕ) (l : List ℕ) → (lesser t st i k best ≡ best) ⊎ AtFarEnd (k ∷ l) (lesser t st i k best)
  lesser_is k best l =
      by_cond (λ x. (x ≡ best) ⊎ AtFarEnd (k ∷ l) x) (ltb 0 (residual t st.flow i k)) (min best (at_node st.label (far t i k))) best
      (λ e. taken (ltb-true 0 (residual t st.flow i k) e)) (λ _. inl refl)
    where
      taken : 0 < residual t st.flow i k → (min best (at_node st.label (far t i k)) ≡ best) ⊎ AtFarEnd (k ∷ l) (min best (at_node st.label (far t i k)))
      taken some =
          by_test (ltb best (at_node st.label (far t i k)))
          (λ e. inl (omega (arith, ltb-true best (at_node st.label (far t i k)) e)))
          (λ e.
          inr
          (record {
            place = k;
            member = Memᴰ.head refl;
            left = some;
            label = omega (arith, ltb-false best (at_node st.label (far t i k)) e);
          }))

  -- What a list reaches a longer one does.
  at_far_end_on : (k x : ℕ) (l : List ℕ) → AtFarEnd l x → AtFarEnd (k ∷ l) x
  at_far_end_on k x l r = record { place = r.place; member = Memᴰ.tail r.member; left = r.left; label = r.label }

  -- The least is the far label of a residual member, or the one that it began with.
  pub least_is : (l : List ℕ) (best : ℕ) → (least_far t st i l best ≡ best) ⊎ AtFarEnd l (least_far t st i l best)
  unfolding least_far
  least_is [] best = inl refl
  least_is (k ∷ l) best =
      ⊎_elim
      (λ same.
      ⊎_elim (λ first. inl (same ∙ first))
      (λ (r : AtFarEnd (k ∷ l) (lesser t st i k best)). inr (subst (AtFarEnd (k ∷ l)) (sym same) r))
      (lesser_is k best l))
      (λ later. inr (at_far_end_on k (least_far t st i l (lesser t st i k best)) l later))
      (least_is l (lesser t st i k best))

module _ (t : Table) (sound : Sound (network_of t)) (st : State) (i : ℕ) where
  -- The arc found is the theory's: with residual above 0 and a far end exactly one lower.
  pub eligible_arc : (k : ℕ) → Memᴰ k (list t i) → eligible t st i k ≡ true → Eligible (network_of t) (functions_of st) k (way t i k)
  eligible_arc k member e =
      let (some, down) = both_true (ltb 0 (residual t st.flow i k)) (eqb (at_node st.label (far t i k) + 1) (at_node st.label i)) e in
      record {
        below = (list_touches t i member).0;
        left = ltb-true 0 (residual t st.flow i k) some;
        down =
            omega (
              arith,
              ap (at_node st.label) (member_start t i member),
              eqb-true (at_node st.label (far t i k) + 1) (at_node st.label i) down,
            );
      }

  module _ (k : ℕ) (b : Bool) (l : k < arcs t) (e : near_end (network_of t) k b ≡ i) where
    -- An arc that the network takes from i stands in i's list,
    in_list : Memᴰ k (list t i)
    in_list = touches_list t i k l (start_touches t i k b e)

    -- and is taken there in the same way.
    same_way : way t i k ≡ b
    same_way = start_way t i k b (sound.loopless k l) e

    -- One with residual that goes down by one from i is eligible.
    arc_eligible : 0 < residual_over (network_of t) (at_place st.flow) k b → at_node st.label i ≡ at_node st.label (far_end (network_of t) k b) + 1
        → eligible t st i k ≡ true
    arc_eligible some down =
        ap₂ ◌&&◌
        (lt-ltb 0 (residual t st.flow i k) (omega (arith, ap (residual_over (network_of t) (at_place st.flow) k) same_way)))
        (eq-eqb (at_node st.label (far t i k) + 1) (at_node st.label i)
        (omega (arith, ap (λ w. at_node st.label (far_end (network_of t) k w)) same_way)))

    -- The least label is at most the far end's.
    low : 0 < residual_over (network_of t) (at_place st.flow) k b → least_far t st i (list t i) (top t) ≤ at_node st.label (far_end (network_of t) k b)
    low some =
        omega (
          arith,
          least_far_lem t st i (list t i) (top t) k in_list (omega (arith, ap (residual_over (network_of t) (at_place st.flow) k) same_way)),
          ap (λ w. at_node st.label (far_end (network_of t) k w)) same_way,
        )

  -- The least label is the theory's: no arc is eligible, some arc is residual and labels are below 2n, so one more is the new label.
  pub least_new_label : first_eligible t st i (list t i) ≡ None → ResidualFrom (network_of t) (at_place st.flow) i
      → ((j : ℕ) → Node t.nodes j → at_node st.label j < top t)
      → NewLabel (network_of t) (functions_of st) i (new_label t st i)
  least_new_label missing out high = ⊎_elim (λ is_top. absurd (never is_top)) answer (least_is t st i (list t i) (top t))
    where
      never : least_far t st i (list t i) (top t) ≡ top t → ⊥
      never is_top =
          omega (
            arith,
            low out.place out.way out.below out.from out.left,
            high (far_end (network_of t) out.place out.way) (far_end_node (network_of t) sound out.place out.way out.below),
          )

      answer : AtFarEnd t st i (list t i) (least_far t st i (list t i) (top t)) → NewLabel (network_of t) (functions_of st) i (new_label t st i)
      answer r =
          record {
            stuck =
                λ k b l e some down.
                true≢false (sym (arc_eligible k b l e some down) ∙ found_missing t st i (list t i) missing k (in_list k b l e));
            least = λ k b l e some. omega (arith, low k b l e some);
            arc =
                record {
                  place = r.place;
                  way = way t i r.place;
                  below = (list_touches t i r.member).0;
                  from = member_start t i r.member;
                  left = r.left;
                };
            reached = ap (λ x. x + 1) r.label;
          }
