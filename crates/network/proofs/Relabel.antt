-- A relabel keeps the facts: the label rises, and stays below 2n.
use Prim.Native.Nat.{ℕ, ◌+◌, ◌*◌, ◌≤◌, ◌<◌}
use mathlib.Core.Path.{refl, ap, sym, ◌∙◌}
use native.Mathlib.Omega.{arith}
use Rattle.rows.proofs.Functions.{put}
use Rattle.rows.proofs.Sums.{by_equal, put_same, put_other}
use Rattle.network.specs.Network.{Network, near_end, far_end, Sound, NoMinimums}
use Rattle.network.proofs.Steps.{State, relabel, Chosen, NewLabel}
use Rattle.network.proofs.Gaps.{Valid, EndLabels, label_bound}
use Rattle.network.proofs.Facts.{Facts, chosen_inner}

module _ (N : Network) (sound : Sound N) (Δ : ℕ) (S : State) (facts : Facts N Δ S) (i v : ℕ) (chosen : Chosen N Δ S i) (new : NewLabel N S i v) where
  -- A relabel raises the label by at least one.
  pub relabel_rises : S.label i + 1 ≤ v
  relabel_rises =
      omega (
        arith,
        facts.valid new.arc.place new.arc.way new.arc.below new.arc.left,
        ap S.label new.arc.from,
        new.reached,
        new.stuck new.arc.place new.arc.way new.arc.below new.arc.from new.arc.left,
      )

  -- No label falls.
  pub labels_kept : (j : ℕ) → S.label j ≤ put S.label i v j
  labels_kept j =
      by_equal j i
      (λ e. omega (arith, put_same S.label i v j e, ap S.label e, relabel_rises))
      (λ e. omega (arith, put_other S.label i v j e))

  -- Labels stay valid.
  relabel_valid : Valid N S.flow (put S.label i v)
  relabel_valid k b l r =
      by_equal (near_end N k b) i
      (λ e.
      omega (
        arith,
        put_same S.label i v (near_end N k b) e,
        labels_kept (far_end N k b),
        new.least k b l e r,
      ))
      (λ e.
      omega (
        arith,
        put_other S.label i v (near_end N k b) e,
        labels_kept (far_end N k b),
        facts.valid k b l r,
      ))

  -- Source and sink keep their labels.
  relabel_ends : EndLabels N (put S.label i v)
  relabel_ends =
      let inner = chosen_inner N sound Δ S facts i chosen in
      record {
        source = put_other S.label i v N.s (λ e. inner.not_source (sym e)) ∙ facts.ends.source;
        sink = put_other S.label i v N.t (λ e. inner.not_sink (sym e)) ∙ facts.ends.sink;
      }

  module _ (none : NoMinimums N) where
    -- The new label is at most 2n - 1.
    new_label_bound : v < 2 * N.n
    new_label_bound =
        omega (
          arith,
          label_bound N sound S.flow S.excess facts.pre none (put S.label i v) relabel_valid relabel_ends i
              chosen.node (omega (arith, chosen.large)),
          put_same S.label i v i refl,
        )

    -- A relabel keeps the facts.
    pub step_relabel_facts : Facts N Δ (relabel i v S)
    step_relabel_facts =
        record {
          pre = facts.pre;
          valid = relabel_valid;
          ends = relabel_ends;
          highest =
              λ j node.
              by_equal j i
              (λ e. omega (arith, put_same S.label i v j e, new_label_bound))
              (λ e. omega (arith, put_other S.label i v j e, facts.highest j node));
          small = facts.small;
        }
