-- Laws of the code that goes on from a flow that keeps all arcs between their numbers to one of greatest value.
use Prim.Native.Nat.{ℕ, ◌+◌, ◌-◌, ◌≤◌, ◌<◌}
use mathlib.Core.Path.{◌≡◌, refl, ap, sym, subst, ◌∙◌}
use mathlib.Core.Bool.{Bool, true, false}
use mathlib.Core.List.{List, ◌++◌}
use native.Mathlib.Omega.{arith}
use lib.ListN.{length, take, drop, get_or-append, length-append, length-drop}
use lib.Seq.{get_or-take, take_at, drop_at}
use lib.IntN.{ℤ, pos, ◌-ℤ◌}
use mir.Syntax.{w64}
use mir.Val.{to_z, of_z}
use Rattle.rows.specs.Row.{Node, at_place, by_place}
use Rattle.rows.proofs.Rows.{length_places, at_places}
use Rattle.network.specs.Network.{Network, Flow, near_end, far_end, residual_over, inflow, outflow, Sound}
use Rattle.network.proofs.Notions.{residual_over_ext}
use Rattle.network.proofs.Agree.{inflow_agree, outflow_agree, flow_agree}
use Rattle.table.specs.Table.{table_of, network_of}
use Rattle.table.specs.Accepted.{ArcRows}
use Rattle.reach.specs.Side.{marked, side_from, side_of}
use Rattle.reach.proofs.Side.{length_of_side}
use Rattle.shortest.specs.Augment.{bound_network, settled}
use Rattle.shortest.specs.Rows.{Ready}
use Rattle.shortest.proofs.Instances.{rows_wide}
use Rattle.shortest.proofs.Settling.{FlowRow, settled_row, settled_long, settled_later, settled_answer}
use Rattle.start.specs.Sums.{sum_at}
use Rattle.arcs.specs.Ends.{WideEnds}
use Rattle.arcs.specs.Work.{work_end}
use Rattle.minimums.specs.BoundedTable.{BoundedTable, bounded_of, AcceptedBounded, BoundedRows}
use Rattle.joining.specs.Joining.{Small}
use Rattle.feasible.specs.Flows.{bounded_network}
use Rattle.feasible.proofs.Accepting.{bounded_sound}
use Rattle.feasible.proofs.Networks.{held_enters, held_leaves}
use Rattle.bounded.specs.Bounded.{bounded_side, value_of, GreatestBounded}
use Rattle.bounded.specs.Solving.{Solvable, Above, Holds}
use Rattle.bounded.proofs.Signed.{reads_back}
use Rattle.bounded.proofs.Sides.{Alike, side_same}
use Rattle.bounded.proofs.Largest.{greatest_bounded}

-- What a row holds at one of its first places.
at_front : (f : ℕ → ℕ) (m k : ℕ) (row rest : List ℕ) → row ≡ by_place f m ++ rest → k < m → at_place row k ≡ f k
at_front f m k row rest e l =
    ap (λ r. at_place r k) e
    ∙ get_or-append (by_place f m) rest 0 k (omega (arith, length_places f m))
    ∙ at_places f m k l

-- Its later places.
after_front : (f : ℕ → ℕ) (m : ℕ) (row old : List ℕ) → row ≡ by_place f m ++ drop m old → drop m row ≡ drop m old
after_front f m row old e = ap (drop m) e ∙ drop_at (by_place f m) (drop m old) m (length_places f m)

-- Its length.
long_front : (f : ℕ → ℕ) (m : ℕ) (row old : List ℕ) → m ≤ length old → row ≡ by_place f m ++ drop m old → length row ≡ length old
long_front f m row old l e =
    omega (arith, ap length e, length-append (by_place f m) (drop m old), length_places f m, length-drop m old)

module _ {n s t : ℕ} {tails heads capacities minimums flow₀ side₀ spare more₀ : List ℕ}
    (solvable : Solvable (bounded_of n s t tails heads capacities minimums) flow₀ side₀)
    (above : Above (bounded_of n s t tails heads capacities minimums) spare more₀) where
  abbrev b : BoundedTable
  b = bounded_of n s t tails heads capacities minimums

  abbrev N : Network
  N = bounded_network b

  accepted : AcceptedBounded b
  accepted = solvable.accepted

  rows : BoundedRows n tails heads capacities minimums
  rows = accepted.rows

  -- The minimums are as many as the arcs.
  as_many : length minimums ≡ length capacities
  as_many = rows.minimums_long

  -- Rows that the minimums are added to.
  pub adds : ((length minimums ≤ length more₀) × (length minimums ≤ length flow₀))
      × ((j : ℕ) → j < length minimums → at_place more₀ j + at_place minimums j ≤ 1000000)
  adds =
      let many = as_many in (
        (omega (arith, above.more_long), omega (arith, solvable.flow_long)),
        λ j l. omega (arith, above.keeps.high j (omega arith), rows.arcs.small j (omega arith)),
      )

  module _ {flow₁ : List ℕ} (first : flow₁ ≡ by_place (λ k. at_place more₀ k + at_place minimums k) (length minimums) ++ drop (length minimums) flow₀) where
    first_long : length flow₁ ≡ length flow₀
    first_long = long_front _ (length minimums) flow₁ flow₀ adds.0.1 first

    -- The flow with the minimums is ready to go on from.
    pub ready : Ready (bounded_of n s t tails heads capacities minimums) flow₁
    ready =
        let many = as_many in
        record {
          rows =
              record {
                arcs = rows_wide rows.arcs;
                minimums_long = as_many;
                flow_long = omega (arith, first_long, solvable.flow_long);
              };
          source = accepted.source;
          sink = accepted.sink;
          apart = accepted.apart;
          valid =
              flow_agree N (λ k. at_place more₀ k + at_place minimums k) (at_place flow₁)
              (λ k l. sym (at_front _ (length minimums) k flow₁ _ first (omega arith))) above.keeps;
        }

    -- Its lists can be made.
    pub lists_asked : (room : ℕ) → work_end 514 5122 ≤ room → WideEnds n tails heads × (work_end n (length tails) ≤ room)
    lists_asked room h = (ready.rows.arcs.ends, omega (arith, rows.arcs.ends.few_nodes, rows.arcs.ends.few_arcs))

    module _ {flow₂ : List ℕ} (gone : flow₂ ≡ settled (bound_network n s t tails heads capacities minimums) flow₁) where
      sound : Sound N
      sound = bounded_sound b accepted

      begins : FlowRow N sound flow₁
      begins = record { long = ready.rows.flow_long; valid = ready.valid }

      -- Where it ends is a flow that keeps all arcs between their numbers,
      valid : Flow N (at_place flow₂)
      valid = subst (λ r. Flow N (at_place r)) (sym gone) (settled_row N sound flow₁ begins).valid

      -- the sink is out of its reach,
      no_sink : marked (side_from N (at_place flow₂)) t ≡ false
      no_sink = subst (λ r. marked (side_from N (at_place r)) t ≡ false) (sym gone) (settled_answer N sound flow₁ begins).least.cut.sink

      -- and later places are as they were.
      second_long : length flow₂ ≡ length flow₀
      second_long = ap length gone ∙ settled_long N sound flow₁ ∙ first_long

      later : drop (length capacities) flow₂ ≡ drop (length capacities) flow₀
      later =
          ap (drop (length capacities)) gone
          ∙ settled_later N sound flow₁ begins
          ∙ ap (λ m. drop m flow₁) (sym as_many)
          ∙ after_front _ (length minimums) flow₁ flow₀ first
          ∙ ap (λ m. drop m flow₀) as_many

      -- Rows that the minimums are taken from.
      pub takes : ((length minimums ≤ length flow₂) × (length minimums ≤ length more₀))
          × ((j : ℕ) → j < length minimums → at_place minimums j ≤ at_place flow₂ j)
      takes =
          let many = as_many in (
            (omega (arith, second_long, solvable.flow_long), adds.0.0),
            λ j l. valid.low j (omega arith),
          )

      -- The flows are small enough to be summed.
      pub sums : Small tails flow₂ × Small heads flow₂
      sums =
          let long = rows.arcs.capacities_long in
          let even = rows.arcs.ends.heads_long in
          let few = rows.arcs.ends.few_arcs in
          let many = second_long in
          let room = solvable.flow_long in (
            record { few = omega arith; long = omega arith; each = λ k l. omega (arith, valid.high k (omega arith), rows.arcs.small k (omega arith)) },
            record { few = omega arith; long = omega arith; each = λ k l. omega (arith, valid.high k (omega arith), rows.arcs.small k (omega arith)) },
          )

      module _ {more₁ : List ℕ} (lower : more₁ ≡ by_place (λ k. at_place flow₂ k - at_place minimums k) (length minimums) ++ drop (length minimums) more₀) where
        -- What the capacities leave above the minimums are capacities of a table.
        pub marks : (ArcRows n tails heads spare × (length spare ≤ length more₁) × Node n s) × ((length spare ≡ length tails) × (n ≤ length side₀))
        marks =
            let many = as_many in
            let long = above.spare_long in (
              (
                record {
                  ends = rows.arcs.ends;
                  capacities_long = above.spare_long ∙ rows.arcs.capacities_long;
                  small = λ k l. omega (arith, above.spare_is k (omega arith), rows.arcs.small k (omega arith));
                },
                omega (arith, long_front _ (length minimums) more₁ more₀ adds.0.0 lower, above.more_long),
                accepted.source,
              ),
              (above.spare_long ∙ rows.arcs.capacities_long, solvable.side_long),
            )

        -- Its residuals are those of the flow with its minimums: the marks are the side.
        alike : Alike N (network_of (table_of n s t tails heads spare)) (at_place (take (length capacities) flow₂)) (at_place more₁)
        alike =
            record {
              nodes = refl;
              arcs = sym above.spare_long;
              source = refl;
              near = same_near;
              far = same_far;
              left = same_left;
            }
          where
            same_near : (k : ℕ) (w : Bool) → k < length capacities → near_end N k w ≡ near_end (network_of (table_of n s t tails heads spare)) k w
            same_near k true l = refl
            same_near k false l = refl

            same_far : (k : ℕ) (w : Bool) → k < length capacities → far_end N k w ≡ far_end (network_of (table_of n s t tails heads spare)) k w
            same_far k true l = refl
            same_far k false l = refl

            here : (k : ℕ) → k < length capacities → at_place more₁ k ≡ at_place flow₂ k - at_place minimums k
            here k l = at_front _ (length minimums) k more₁ _ lower (omega (arith, as_many))

            same_left : (k : ℕ) (w : Bool) → k < length capacities
                → residual_over N (at_place (take (length capacities) flow₂)) k w ≡ residual_over (network_of (table_of n s t tails heads spare)) (at_place more₁) k w
            same_left k true l =
                omega (arith, get_or-take (length capacities) flow₂ k 0 l, here k l, above.spare_is k l, valid.low k l, valid.high k l)
            same_left k false l = omega (arith, get_or-take (length capacities) flow₂ k 0 l, here k l, valid.low k l)

        module _ {side : List ℕ} (marked_so : side ≡ side_of (table_of n s t tails heads spare) more₁ ++ drop n side₀) {value : ℤ}
            (net : value ≡ pos (sum_at tails flow₂ s (length tails)) -ℤ pos (sum_at heads flow₂ s (length heads))) where
          -- The flow's first places.
          abbrev front : List ℕ
          front = take (length capacities) flow₂

          agree : (k : ℕ) → k < length capacities → at_place flow₂ k ≡ at_place front k
          agree k l = sym (get_or-take (length capacities) flow₂ k 0 l)

          side_row : side ≡ bounded_side b front ++ drop n side₀
          side_row = marked_so ∙ ap (λ r. r ++ drop n side₀) (sym (side_same N (network_of (table_of n s t tails heads spare)) (at_place front) (at_place more₁) alike))

          side_front : take n side ≡ side_from N (at_place front)
          side_front =
              ap (take n) side_row
              ∙ take_at (side_from N (at_place front)) (drop n side₀) n (length_of_side N (at_place front) sound)

          -- The side of the flow's first places is the side of the flow.
          same_side : side_from N (at_place flow₂) ≡ side_from N (at_place front)
          same_side =
              side_same N N (at_place flow₂) (at_place front)
              (record {
                nodes = refl;
                arcs = refl;
                source = refl;
                near = λ k w l. refl;
                far = λ k w l. refl;
                left = λ k w l. residual_over_ext N (at_place flow₂) (at_place front) k w (agree k l);
              })

          net_value : value ≡ value_of b (at_place front)
          net_value =
              net
              ∙ ap (λ x. pos x -ℤ pos (sum_at heads flow₂ s (length heads))) (held_out ∙ outflow_agree N (at_place flow₂) (at_place front) agree s)
              ∙ ap (λ x. pos (outflow N (at_place front) s) -ℤ pos x) (held_in ∙ inflow_agree N (at_place flow₂) (at_place front) agree s)
            where
              held_out : sum_at tails flow₂ s (length tails) ≡ outflow N (at_place flow₂) s
              held_out = ap (sum_at tails flow₂ s) (sym rows.arcs.capacities_long) ∙ held_leaves n s t tails heads capacities minimums flow₂ s

              held_in : sum_at heads flow₂ s (length heads) ≡ inflow N (at_place flow₂) s
              held_in =
                  ap (sum_at heads flow₂ s) (rows.arcs.ends.heads_long ∙ sym rows.arcs.capacities_long)
                  ∙ held_enters n s t tails heads capacities minimums flow₂ s

          best : GreatestBounded b front (take n side) value
          best =
              greatest_bounded b accepted front (take n side) value (flow_agree N (at_place flow₂) (at_place front) agree valid) side_front
              (ap (λ r. marked r t) (side_front ∙ sym same_side) ∙ no_sink) net_value

          -- What the call leaves: the value as it is read back from its 64 bits.
          pub leaves : Holds b flow₀ side₀ flow₂ side × GreatestBounded b front (take n side) (to_z w64 (of_z w64 value))
          leaves = (
            record { flow_long = second_long; flow_later = later; side_row = side_row },
            subst (GreatestBounded b front (take n side)) (sym (reads_back value best.range)) best,
          )
