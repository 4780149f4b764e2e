-- One step of the rows is one step of the theory, counted alike.
use Rattle.std.specs.Prelude.{Option, Some, None}
use Prim.Native.Nat.{ℕ, ◌+◌, ◌<◌, min}
use mathlib.Core.Path.{◌≡◌, refl, ap, sym, subst, ◌∙◌}
use mathlib.Core.Bool.{Bool, true, false, cond}
use mathlib.Core.List.{Memᴰ}
use native.Mathlib.Omega.{arith}
use borrow.Author.Tests.{eqb-true, eqb-false}
use Rattle.network.specs.Network.{near_end}
use Rattle.network.proofs.Notions.{ResidualFrom}
use Rattle.network.proofs.Steps.{NewLabel, Chosen, Eligible, Steps, no_steps_lem, saturating, nonsaturating, relabels}
use Rattle.network.proofs.Steps.{State as Functions, push as pushed, amount as moves}
use Rattle.network.proofs.Gaps.{residual_arc}
use Rattle.network.proofs.Bounds.{steps_hold}
use Rattle.table.specs.Table.{Table, network_of}
use Rattle.table.specs.Accepted.{Accepted}
use Rattle.run.specs.declared.Counts.{Counts}
use Rattle.arcs.specs.Residual.{way, list}
use Rattle.run.specs.Choice.{choose}
use Rattle.run.specs.Push.{first_eligible, amount, saturates, push}
use Rattle.run.specs.Relabel.{new_label}
use Rattle.run.specs.Phase.{Run, step_at, step}
use Rattle.run.specs.Rows.{Fits}
use Rattle.arcs.proofs.Members.{member_start}
use Rattle.run.proofs.Networks.{functions_of, FactsOf, accepted_sound, no_minimums}
use Rattle.run.proofs.Choices.{choose_chosen}
use Rattle.run.proofs.Arcs.{found_place, eligible_arc, least_new_label}
use Rattle.run.proofs.Pushes.{amount_same, push_same, push_fits, relabel_same, relabel_fits}

-- Counts went from one to the other by a saturating and c nonsaturating pushes and l relabels.
pub record Counted (from to : Counts) (a c l : ℕ) : Type 0 where
  pub saturating_is : to.saturating ≡ from.saturating + a
  pub nonsaturating_is : to.nonsaturating ≡ from.nonsaturating + c
  pub relabels_is : to.relabels ≡ from.relabels + l

-- `size` steps of a phase at Delta lead from one run to another: steps of the theory, counted as the rows' run counts them.
pub record Trail (t : Table) (delta : ℕ) (from to : Run) (size : ℕ) : Type 0 where
  pub saturated : ℕ
  pub unsaturated : ℕ
  pub relabelled : ℕ
  pub steps : Steps (network_of t) delta (functions_of from.state) (functions_of to.state) saturated unsaturated relabelled
  pub counted : Counted from.counts to.counts saturated unsaturated relabelled
  pub size_is : saturated + unsaturated + relabelled ≡ size
  pub fits : Fits t to.state

-- No steps.
pub no_trail : (t : Table) (delta : ℕ) (r : Run) → Fits t r.state → Trail t delta r r 0
no_trail t delta r fits =
    record {
      saturated = 0;
      unsaturated = 0;
      relabelled = 0;
      steps = no_steps_lem;
      counted = omega arith;
      size_is = refl;
      fits = fits;
    }

-- The least of three that is not the second is below it.
not_all : (x y z : ℕ) → (min x (min y z) ≡ y → ⊥) → min x (min y z) < y
not_all x y z ne = omega (arith, ne)

module _ (t : Table) (ok : Accepted t) (delta : ℕ) (from : Run) (facts : FactsOf t delta from.state)
    (r : Run) (size : ℕ) (trail : Trail t delta from r size) where
  -- The facts hold at the end of a trail.
  pub trail_facts : FactsOf t delta r.state
  trail_facts = (steps_hold (network_of t) (accepted_sound t ok) (no_minimums t) delta (functions_of from.state) facts trail.steps).0

  module _ (i : ℕ) (chosen : Chosen (network_of t) delta (functions_of r.state) i) where
    -- The theory's push along the arc at place k, away from i.
    module _ (k : ℕ) (member : Memᴰ k (list t i)) (arc : Eligible (network_of t) (functions_of r.state) k (way t i k)) where
      abbrev after_push : Functions
      after_push = pushed (network_of t) k (way t i k) (moves (network_of t) delta (functions_of r.state) k (way t i k)) (functions_of r.state)

      -- Its amount is the rows' amount,
      moves_same : amount t delta r.state i k ≡ moves (network_of t) delta (functions_of r.state) k (way t i k)
      moves_same = amount_same t (accepted_sound t ok) r.state trail.fits i chosen.node k member delta

      -- it leads to the rows' state,
      pushed_same : functions_of (push t delta r.state i k) ≡ after_push
      pushed_same =
          push_same t (accepted_sound t ok) r.state trail.fits i chosen.node k member delta
          ∙ ap (λ d. pushed (network_of t) k (way t i k) d (functions_of r.state)) moves_same

      -- it starts at the chosen node,
      near : Chosen (network_of t) delta (functions_of r.state) (near_end (network_of t) k (way t i k))
      near = subst (Chosen (network_of t) delta (functions_of r.state)) (sym (member_start t i member)) chosen

      -- it is a step of the theory, saturating or not as the rows' push is,
      push_steps : (full : Bool) → saturates t delta r.state i k ≡ full
          → Steps (network_of t) delta (functions_of from.state) after_push (trail.saturated + cond full 1 0) (trail.unsaturated + cond full 0 1)
          trail.relabelled
      push_steps true e =
          subst (λ (c : ℕ). Steps (network_of t) delta (functions_of from.state) after_push (trail.saturated + 1) c trail.relabelled)
          (omega arith)
          (saturating trail.steps k (way t i k) near arc (sym moves_same ∙ eqb-true _ _ e))
      push_steps false e =
          subst (λ (a : ℕ). Steps (network_of t) delta (functions_of from.state) after_push a (trail.unsaturated + 1) trail.relabelled)
          (omega arith)
          (nonsaturating trail.steps k (way t i k) near arc (not_all _ _ _ (λ p. eqb-false _ _ e (moves_same ∙ p))))

      -- and so the push goes on with the trail.
      push_trail : Trail t delta from (step_at t delta r i (Some k)) (size + 1)
      unfolding step_at
      push_trail =
          record {
            saturated = trail.saturated + cond full 1 0;
            unsaturated = trail.unsaturated + cond full 0 1;
            relabelled = trail.relabelled;
            steps =
                subst
                (λ (S : Functions).
                Steps (network_of t) delta (functions_of from.state) S (trail.saturated + cond full 1 0) (trail.unsaturated + cond full 0 1)
                trail.relabelled)
                (sym pushed_same) (push_steps full refl);
            counted = omega (arith, trail.counted);
            size_is = omega (arith, trail.size_is, one full);
            fits = push_fits t (accepted_sound t ok) r.state trail.fits i chosen.node k member delta;
          }
        where
          full : Bool
          full = saturates t delta r.state i k

          one : (b : Bool) → ◌≡◌ {A = ℕ} (cond b 1 0 + cond b 0 1) 1
          one true = refl
          one false = refl

    -- Where no arc of node i's list is eligible, its new label is the theory's.
    stuck_label : first_eligible t r.state i (list t i) ≡ None → NewLabel (network_of t) (functions_of r.state) i (new_label t r.state i)
    stuck_label missing = least_new_label t (accepted_sound t ok) r.state i missing out trail_facts.highest
      where
        out : ResidualFrom (network_of t) (functions_of r.state).flow i
        out =
            residual_arc (network_of t) (accepted_sound t ok) (functions_of r.state).flow (functions_of r.state).excess trail_facts.pre
            (no_minimums t) i chosen.node (omega (arith, chosen.large))

    -- A relabel where no arc of node i's list is eligible is the theory's relabel.
    relabel_trail : first_eligible t r.state i (list t i) ≡ None → Trail t delta from (step_at t delta r i None) (size + 1)
    unfolding step_at
    relabel_trail missing =
        record {
          saturated = trail.saturated;
          unsaturated = trail.unsaturated;
          relabelled = trail.relabelled + 1;
          steps =
              subst
              (λ (S : Functions).
              Steps (network_of t) delta (functions_of from.state) S trail.saturated trail.unsaturated (trail.relabelled + 1))
              (sym (relabel_same t (accepted_sound t ok) r.state trail.fits i chosen.node))
              (relabels trail.steps i (new_label t r.state i) chosen (stuck_label missing));
          counted = omega (arith, trail.counted);
          size_is = omega (arith, trail.size_is);
          fits = relabel_fits t (accepted_sound t ok) r.state trail.fits i chosen.node;
        }

    -- What is done at the chosen node goes on with the trail.
    at_trail : (f : Option ℕ) → first_eligible t r.state i (list t i) ≡ f → Trail t delta from (step_at t delta r i f) (size + 1)
    at_trail (Some k) e =
        let (member, arc) = found_place t r.state i (list t i) k e in
        push_trail k member (eligible_arc t (accepted_sound t ok) r.state i k member arc)
    at_trail None e = relabel_trail e

  -- The new label of a chosen node that is stuck.
  pub new_label_lem : (i : ℕ) → choose t delta r.state ≡ Some i → first_eligible t r.state i (list t i) ≡ None
      → NewLabel (network_of t) (functions_of r.state) i (new_label t r.state i)
  new_label_lem i e missing = stuck_label i (choose_chosen t delta r.state i e) missing

  -- One more step: the node chosen, and what is done there.
  pub step_trail : (i : ℕ) → choose t delta r.state ≡ Some i → Trail t delta from (step t delta r i) (size + 1)
  unfolding step
  step_trail i e = at_trail i (choose_chosen t delta r.state i e) (first_eligible t r.state i (list t i)) refl
