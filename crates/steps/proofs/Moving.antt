-- Laws of a push: the amount, and the rows that it leaves.
use Prim.Native.Nat.{ℕ, ◌+◌, ◌-◌, ◌^◌, ◌≤◌, ◌<◌, min}
use native.Mathlib.Omega.{arith}
use mathlib.Core.Path.{◌≡◌, sym, ap, ◌∙◌}
use mathlib.Core.List.{List, []}
use lib.ListN.{length}
use lib.Dec.{eqb}
use borrow.Author.Tests.{eq-eqb, ne_eqb}
use native.Mathlib.Nat.{min-le_left, min-le_right}
use Rattle.rows.specs.Row.{Node, at_place, at_node}
use Rattle.rows.proofs.Sums.{by_equal}
use Rattle.rows.proofs.Rows.{node_at}
use Rattle.rows.proofs.Rows.{total_two}
use Rattle.table.specs.Table.{Table, table_of}
use Rattle.table.specs.Accepted.{ArcRows}
use Rattle.arcs.specs.Residual.{far, residual}
use Rattle.run.specs.Start.{State}
use Rattle.run.specs.Push.{amount, along, moved, push}
use Rattle.run.specs.Rows.{state_of, WithinCapacities}
use Rattle.rows.specs.Sum.{total}
use Rattle.steps.specs.Rows.{Pushed}
use Rattle.steps.proofs.Searching.{far_node}

-- ---- a push asks nothing more than that the rows are in order and the excesses together fit 32 bits

module _ (tails heads capacities flow excess : List ℕ) (s t delta i k d : ℕ) (rows : ArcRows (length excess) tails heads capacities) (within : WithinCapacities capacities flow)
    (l : k < length capacities) (is : d ≡ amount (table_of (length excess) s t tails heads capacities) delta (state_of flow excess []) i k) where
  -- The table of these rows.
  abbrev table : Table
  table = table_of (length excess) s t tails heads capacities

  -- What is pushed is at most the excess, and at most the residual.
  most : (d ≤ at_node excess i) × (d ≤ residual table flow i k)
  most =
      let rest = min (residual table flow i k) (delta - at_node excess (far table i k)) in (
        omega (arith, min-le_left (at_node excess i) rest),
        omega (arith, min-le_right (at_node excess i) rest, min-le_left (residual table flow i k) (delta - at_node excess (far table i k))),
      )

  -- The flow row takes it: below the capacity from the tail, within the flow from the head.
  pub push_sends : (at_place tails k ≡ i → at_place flow k + d < 2 ^ 32) × ((at_place tails k ≡ i → ⊥) → d ≤ at_place flow k)
  push_sends = (
    λ e. let fits = rw (eq-eqb (at_place tails k) i e) at most.1 in omega (arith, within.below k l, rows.small k l),
    λ ne. let fits = rw (ne_eqb (at_place tails k) i ne) at most.1 in omega arith,
  )

  module _ (j : ℕ) (e : j ≡ far table i k) where
    -- The far end is another node,
    far_other : i ≡ j → ⊥
    far_other same =
        let below : k < length tails = omega (arith, rows.capacities_long) in
        by_equal (at_place tails k) i
        (λ is_tail. rows.ends.no_loop k below (is_tail ∙ same ∙ e ∙ rw (eq-eqb (at_place tails k) i is_tail)))
        (λ is_head. is_head (sym (same ∙ e ∙ rw (ne_eqb (at_place tails k) i is_head))))

    -- and the excess row takes what is pushed.
    pub push_shifts : Node (length excess) i → total excess < 2 ^ 32
        → Node (length excess) j × ((i ≡ j → ⊥) × ((d ≤ at_node excess i) × (at_node excess j + d < 2 ^ 32)))
    push_shifts here small =
        let there : Node (length excess) j = far_node s t i rows l j e in
        let both = total_two excess (i - 1) (j - 1) (omega arith) (omega arith) (λ q. far_other (omega arith)) in
        (there, (far_other, (most.0, omega (arith, most.0, node_at excess i here.0, node_at excess j there.0))))

-- A push from its parts: the amount d, the far end j, the residual r.
pub pushed : (t : Table) (delta : ℕ) (st : State) (i k d j r : ℕ) (flow excess : List ℕ)
    → d ≡ amount t delta st i k → j ≡ far t i k → r ≡ residual t st.flow i k
    → flow ≡ along t st.flow i k d → excess ≡ moved t st.excess i j d → Pushed t delta st i k flow excess (eqb d r)
unfolding push
pushed t delta st i k d j r flow excess d_is j_is r_is sent shifted =
    record {
      flow_is = sent ∙ ap (along t st.flow i k) d_is;
      excess_is = shifted ∙ ap (λ (x : ℕ). moved t st.excess i x d) j_is ∙ ap (moved t st.excess i (far t i k)) d_is;
      full_is = ap (λ (x : ℕ). eqb x r) d_is ∙ ap (eqb (amount t delta st i k)) r_is;
    }
