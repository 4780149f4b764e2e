-- The smaller table of an accepted one is accepted, and a largest flow of it, put back, is a largest flow of the old.
use Prim.Native.Nat.{ℕ, suc, ◌+◌, ◌-◌, ◌≤◌, ◌<◌}
use mathlib.Core.Path.{◌≡◌, refl, ap, ap₂, sym, ◌∙◌, subst}
use mathlib.Core.Bool.{Bool, true, false, cond, ◌&&◌, ◌||◌, true≢false}
use mathlib.Core.List.{List, [], map}
use native.Mathlib.Omega.{arith}
use borrow.Author.Tests.{eq-eqb, ne_eqb, eqb-true, ltb-true, lt-ltb}
use lib.Dec.{eqb, ltb}
use lib.ListN.{length}
use Rattle.rows.specs.Row.{Node, at_place}
use Rattle.rows.specs.Sum.{sum, only}
use Rattle.rows.proofs.Sums.{by_equal, by_test, both_true, only_of_zero, sum_zero}
use Rattle.rows.proofs.Rows.{at_places}
use Rattle.network.specs.Network.{Inner, Flow, Value, Cut, source, along, Reached, arrived, onward, SinkReached, Answer, inflow, outflow, near_end, far_end, residual_over, Closed}
use Rattle.network.proofs.Agree.{inflow_agree, outflow_agree}
use Rattle.network.proofs.Cuts.{reach_inside, reach_closed, reached_answer, no_minimums_enter}
use Rattle.table.specs.Table.{Table, arcs, tail, head, capacity, network_of}
use Rattle.table.specs.Accepted.{Accepted}
use Rattle.reach.specs.Side.{marked, side_of}
use Rattle.reach.proofs.Side.{side_reached}
use Rattle.run.specs.Phase.{run, value}
use Rattle.run.specs.Demands.{Best}
use Rattle.run.proofs.Networks.{accepted_sound, no_minimums}
use Rattle.run.proofs.Answers.{run_best}
use Rattle.reach.proofs.Turning.{sink_side_reached}
use Rattle.listing.proofs.Listing.{count_next, passing_few, passing_fewer, passing_rises}
use Rattle.shrinking.specs.Smaller.{from_source, to_sink, live, keeps_node, keeps_arc, node_origins, arc_origins, number_in, smaller, back_at, put_back, back_flow, back_side}
use Rattle.listing.proofs.Ranking.{map_at, map_long, rank, rank_below, at_rank, rank_once, Ranked, ranked_at, sum_ranks}

-- One of two tests holds.
or_left : (a b : Bool) → a ≡ true → a || b ≡ true
or_left a b e = ap (λ x. x || b) e

-- The other does.
or_right : (a b : Bool) → b ≡ true → a || b ≡ true
or_right true b e = refl
or_right false b e = e

-- Both do.
and_true : (a b : Bool) → a ≡ true → b ≡ true → a && b ≡ true
and_true a b p q = ap₂ ◌&&◌ p q

module _ (t : Table) (ok : Accepted t) where
  -- ---- the nodes that are kept, and their numbers

  -- A live node is kept,
  live_kept : (i : ℕ) → live t i ≡ true → keeps_node t i ≡ true
  live_kept i e = or_left (live t i) (eqb i t.source || eqb i t.sink) e

  -- and so is the source,
  source_kept : keeps_node t t.source ≡ true
  source_kept =
      or_right (live t t.source) _ (or_left (eqb t.source t.source) (eqb t.source t.sink) (eq-eqb t.source t.source refl))

  -- and the sink,
  sink_kept : keeps_node t t.sink ≡ true
  sink_kept =
      or_right (live t t.sink) _ (or_right (eqb t.sink t.source) (eqb t.sink t.sink) (eq-eqb t.sink t.sink refl))

  -- but not 0.
  pub zero_not : keeps_node t 0 ≡ false
  zero_not = rw (ne_eqb 0 t.source (λ e. omega (arith, ok.source)), ne_eqb 0 t.sink (λ e. omega (arith, ok.sink)))

  -- A kept node's number is one more than its rank.
  number_rank : (i : ℕ) → keeps_node t i ≡ true → number_in t i ≡ rank (keeps_node t) i + 1
  number_rank i e = count_next (keeps_node t) i e

  -- It is a node of the smaller table,
  pub number_node : (i : ℕ) → keeps_node t i ≡ true → i ≤ t.nodes → Node (length (node_origins t)) (number_in t i)
  number_node i e l = omega (arith, number_rank i e, passing_rises (keeps_node t) (suc i) (suc t.nodes) (omega arith))

  -- and no other's.
  number_once : (i j : ℕ) → keeps_node t i ≡ true → keeps_node t j ≡ true → number_in t i ≡ number_in t j → i ≡ j
  number_once i j a b e = rank_once (keeps_node t) i j a b (omega (arith, number_rank i a, number_rank j b))

  -- So tests of numbers are tests of nodes.
  number_test : (i j : ℕ) → keeps_node t i ≡ true → keeps_node t j ≡ true → eqb (number_in t i) (number_in t j) ≡ eqb i j
  number_test i j a b =
      by_equal i j
      (λ e. eq-eqb (number_in t i) (number_in t j) (ap (number_in t) e) ∙ sym (eq-eqb i j e))
      (λ ne. ne_eqb (number_in t i) (number_in t j) (λ e. ne (number_once i j a b e)) ∙ sym (ne_eqb i j ne))

  -- ---- the arcs that are kept

  -- What is known of a kept arc.
  pub record KeptArc (k : ℕ) : Type 0 where
    pub some : 0 < capacity t k
    pub tail_live : live t (tail t k) ≡ true
    pub head_live : live t (head t k) ≡ true

  -- A kept arc has it.
  pub kept_arc : (k : ℕ) → keeps_arc t k ≡ true → KeptArc k
  kept_arc k e =
      let (a, rest) = both_true (ltb 0 (capacity t k)) _ e in
      let (b, c) = both_true (live t (tail t k)) (live t (head t k)) rest in
      record { some = ltb-true 0 (capacity t k) a; tail_live = b; head_live = c }

  -- An arc of which it is known is kept.
  arc_kept : (k : ℕ) → 0 < capacity t k → live t (tail t k) ≡ true → live t (head t k) ≡ true → keeps_arc t k ≡ true
  arc_kept k a b c =
      and_true (ltb 0 (capacity t k)) _ (lt-ltb 0 (capacity t k) a) (and_true (live t (tail t k)) (live t (head t k)) b c)

  -- What a row of the smaller table holds of a kept arc.
  row_at : (f : ℕ → ℕ) (k : ℕ) → k < arcs t → keeps_arc t k ≡ true → at_place (map f (arc_origins t)) (rank (keeps_arc t) k) ≡ f k
  row_at f k l e =
      map_at f (arc_origins t) (rank (keeps_arc t) k) (rank_below (keeps_arc t) k (arcs t) e l) ∙ ap f (at_rank (keeps_arc t) k (arcs t) e l)

  -- A place of the smaller table is a kept arc's.
  from_arc : (f : ℕ → ℕ) (q : ℕ) → q < length (map f (arc_origins t)) → Ranked (keeps_arc t) (arcs t) q
  from_arc f q l = ranked_at (keeps_arc t) (arcs t) q (omega (arith, map_long f (arc_origins t)))

  -- Tails and heads of the old table are nodes.
  tail_is : (k : ℕ) → k < arcs t → Node t.nodes (tail t k)
  tail_is k l = (accepted_sound t ok).tails k l

  head_is : (k : ℕ) → k < arcs t → Node t.nodes (head t k)
  head_is k l = (accepted_sound t ok).heads k l

  -- ---- the smaller table is accepted

  pub smaller_accepted : Accepted (smaller t)
  smaller_accepted =
      record {
        two = omega (arith, apart, s_node, t_node);
        source = s_node;
        sink = t_node;
        apart = apart;
        rows =
            record {
              ends =
                  record {
                    few_nodes = omega (arith, passing_fewer (keeps_node t) zero_not t.nodes, ok.rows.ends.few_nodes);
                    few_arcs =
                        omega (
                          arith,
                          map_long (λ k. number_in t (tail t k)) (arc_origins t),
                          passing_few (keeps_arc t) (arcs t),
                          ok.rows.ends.few_arcs,
                          ok.rows.capacities_long,
                        );
                    heads_long = map_long (λ k. number_in t (head t k)) (arc_origins t) ∙ sym (map_long (λ k. number_in t (tail t k)) (arc_origins t));
                    tail_node = λ q l. tail_node q l;
                    head_node = λ q l. head_node q (omega (arith, map_long (λ k. number_in t (tail t k)) (arc_origins t), map_long (λ k. number_in t (head t k)) (arc_origins t)));
                    no_loop = λ q l e. no_loop q l e;
                  };
              capacities_long = map_long (λ k. capacity t k) (arc_origins t) ∙ sym (map_long (λ k. number_in t (tail t k)) (arc_origins t));
              small = λ q l. small q l;
            };
      }
    where
      s_node : Node (length (node_origins t)) (number_in t t.source)
      s_node = number_node t.source source_kept ok.source.1

      t_node : Node (length (node_origins t)) (number_in t t.sink)
      t_node = number_node t.sink sink_kept ok.sink.1

      apart : number_in t t.source ≡ number_in t t.sink → ⊥
      apart e = ok.apart (number_once t.source t.sink source_kept sink_kept e)

      at : (f : ℕ → ℕ) (q : ℕ) → q < length (map f (arc_origins t)) → at_place (map f (arc_origins t)) q ≡ f (at_place (arc_origins t) q)
      at f q l = map_at f (arc_origins t) q (omega (arith, map_long f (arc_origins t)))

      tail_node : (q : ℕ) → q < length (map (λ k. number_in t (tail t k)) (arc_origins t)) → Node (length (node_origins t)) (at_place (map (λ k. number_in t (tail t k)) (arc_origins t)) q)
      tail_node q l =
          let r = from_arc (λ k. number_in t (tail t k)) q l in
          let k = at_place (arc_origins t) q in
          subst (Node (length (node_origins t))) (sym (at (λ k. number_in t (tail t k)) q l))
          (number_node (tail t k) (live_kept (tail t k) (kept_arc k r.passes).tail_live) (tail_is k r.below).1)

      head_node : (q : ℕ) → q < length (map (λ k. number_in t (head t k)) (arc_origins t)) → Node (length (node_origins t)) (at_place (map (λ k. number_in t (head t k)) (arc_origins t)) q)
      head_node q l =
          let r = from_arc (λ k. number_in t (head t k)) q l in
          let k = at_place (arc_origins t) q in
          subst (Node (length (node_origins t))) (sym (at (λ k. number_in t (head t k)) q l))
          (number_node (head t k) (live_kept (head t k) (kept_arc k r.passes).head_live) (head_is k r.below).1)

      no_loop : (q : ℕ) → q < length (map (λ k. number_in t (tail t k)) (arc_origins t))
          → at_place (map (λ k. number_in t (tail t k)) (arc_origins t)) q ≡ at_place (map (λ k. number_in t (head t k)) (arc_origins t)) q → ⊥
      no_loop q l e =
          let r = from_arc (λ k. number_in t (tail t k)) q l in
          let k = at_place (arc_origins t) q in
          let h : q < length (map (λ k. number_in t (head t k)) (arc_origins t)) = omega (arith, map_long (λ k. number_in t (tail t k)) (arc_origins t), map_long (λ k. number_in t (head t k)) (arc_origins t)) in
          (accepted_sound t ok).loopless k r.below
          (number_once (tail t k) (head t k) (live_kept (tail t k) (kept_arc k r.passes).tail_live) (live_kept (head t k) (kept_arc k r.passes).head_live)
          (sym (at (λ k. number_in t (tail t k)) q l) ∙ e ∙ at (λ k. number_in t (head t k)) q h))

      small : (q : ℕ) → q < length (map (λ k. capacity t k) (arc_origins t)) → at_place (map (λ k. capacity t k) (arc_origins t)) q ≤ 1000000
      small q l =
          let r = from_arc (λ k. capacity t k) q l in
          omega (arith, at (λ k. capacity t k) q l, ok.rows.small (at_place (arc_origins t) q) r.below)

  module _ (flow : List ℕ) where
    -- ---- the flow that is put back

    -- What flows through a kept node is what flows through it in the smaller table: into it,
    back_inflow : (i : ℕ) → keeps_node t i ≡ true → inflow (network_of t) (back_at t flow) i ≡ inflow (network_of (smaller t)) (at_place flow) (number_in t i)
    unfolding inflow
    back_inflow i kept =
        rw (map_long (λ k. capacity t k) (arc_origins t))
        (sum_ranks (keeps_arc t) (at_place flow) (λ k. eqb (head t k) i) (λ j. eqb (at_place (map (λ k. number_in t (head t k)) (arc_origins t)) j) (number_in t i)) (arcs t)
        (λ k l e. ap (λ x. eqb x (number_in t i)) (row_at (λ k. number_in t (head t k)) k l e) ∙ number_test (head t k) i (live_kept (head t k) (kept_arc k e).head_live) kept))

    -- and out of it.
    back_outflow : (i : ℕ) → keeps_node t i ≡ true → outflow (network_of t) (back_at t flow) i ≡ outflow (network_of (smaller t)) (at_place flow) (number_in t i)
    unfolding outflow
    back_outflow i kept =
        rw (map_long (λ k. capacity t k) (arc_origins t))
        (sum_ranks (keeps_arc t) (at_place flow) (λ k. eqb (tail t k) i) (λ j. eqb (at_place (map (λ k. number_in t (tail t k)) (arc_origins t)) j) (number_in t i)) (arcs t)
        (λ k l e. ap (λ x. eqb x (number_in t i)) (row_at (λ k. number_in t (tail t k)) k l e) ∙ number_test (tail t k) i (live_kept (tail t k) (kept_arc k e).tail_live) kept))

    -- Nothing flows at an end that is not kept.
    none_at : (i : ℕ) → keeps_node t i ≡ false → (end : ℕ → ℕ) → ((k : ℕ) → keeps_arc t k ≡ true → live t (end k) ≡ true)
        → sum (arcs t) (λ k. only (eqb (end k) i) (back_at t flow k)) ≡ 0
    none_at i out end lively =
        sum_zero (arcs t) _
        (λ k l.
        by_test (eqb (end k) i)
        (λ here.
        by_test (keeps_arc t k)
        (λ e. absurd (true≢false (sym (live_kept (end k) (lively k e)) ∙ ap (keeps_node t) (eqb-true (end k) i here) ∙ out)))
        (λ e. rw e (only_of_zero (eqb (end k) i))))
        (λ elsewhere. ap (λ b. only b (back_at t flow k)) elsewhere))

    -- What is put back at a place,
    back_there : (k : ℕ) → k < arcs t → at_place (put_back t flow) k ≡ back_at t flow k
    back_there k l = at_places (back_at t flow) (arcs t) k l

    -- where the arc is kept, and where it is not.
    back_kept : (k : ℕ) → keeps_arc t k ≡ true → back_at t flow k ≡ at_place flow (rank (keeps_arc t) k)
    back_kept k e = rw e

    back_other : (k : ℕ) → keeps_arc t k ≡ false → back_at t flow k ≡ 0
    back_other k e = rw e

    module _ (f : Flow (network_of (smaller t)) (at_place flow)) where
      -- It is within the capacities,
      back_high : (k : ℕ) → k < arcs t → back_at t flow k ≤ capacity t k
      back_high k l =
          by_test (keeps_arc t k)
          (λ e.
          let q = rank (keeps_arc t) k in
          let below : q < length (map (λ k. capacity t k) (arc_origins t)) = omega (arith, rank_below (keeps_arc t) k (arcs t) e l, map_long (λ k. capacity t k) (arc_origins t)) in
          omega (arith, back_kept k e, f.high q below, row_at (λ k. capacity t k) k l e))
          (λ e. omega (arith, back_other k e))

      -- and conserved:
      back_kept_at : (i : ℕ) → Inner (network_of t) i → inflow (network_of t) (back_at t flow) i ≡ outflow (network_of t) (back_at t flow) i
      unfolding inflow outflow
      back_kept_at i inner =
          by_test (keeps_node t i)
          (λ e.
          back_inflow i e
          ∙ f.kept (number_in t i)
          (record {
            node = number_node i e inner.node.1;
            not_source = λ same. inner.not_source (number_once i t.source e source_kept same);
            not_sink = λ same. inner.not_sink (number_once i t.sink e sink_kept same);
          })
          ∙ sym (back_outflow i e))
          (λ e. none_at i e (head t) (λ k a. (kept_arc k a).head_live) ∙ sym (none_at i e (tail t) (λ k a. (kept_arc k a).tail_live)))

      -- a flow of the old table.
      pub back_flow_lem : Flow (network_of t) (at_place (put_back t flow))
      back_flow_lem =
          record {
            low = λ k l. omega arith;
            high = λ k l. omega (arith, back_there k l, back_high k l);
            kept =
                λ i inner.
                inflow_agree (network_of t) _ (back_at t flow) back_there i ∙ back_kept_at i inner ∙ sym (outflow_agree (network_of t) _ (back_at t flow) back_there i);
          }

      -- Its value is that in the smaller table.
      pub back_value : (v : ℕ) → Value (network_of (smaller t)) (at_place flow) v → Value (network_of t) (at_place (put_back t flow)) v
      back_value v net =
          omega (
            arith,
            net,
            back_outflow t.source source_kept,
            back_inflow t.source source_kept,
            outflow_agree (network_of t) _ (back_at t flow) back_there t.source,
            inflow_agree (network_of t) _ (back_at t flow) back_there t.source,
          )

      -- ---- a cut of the old table that nothing residual leaves

      module _ (R : ℕ → Bool) (cut : Cut (network_of (smaller t)) R) (closed : Closed (network_of (smaller t)) (at_place flow) R) where
        -- The marks R of the smaller table on live nodes; of the others those that the source reaches.
        abbrev X : ℕ → Bool
        X i = cond (live t i) (R (number_in t i)) (marked (from_source t) i)

        -- What the source reaches, over arcs of capacity above 0.
        ahead : Reached (network_of t) (λ k. 0) (marked (from_source t))
        ahead = side_reached (network_of t) (λ k. 0) (accepted_sound t ok)

        -- What reaches the sink, over such arcs.
        behind : SinkReached (network_of t) (λ k. 0) (marked (to_sink t))
        behind = sink_side_reached t (accepted_sound t ok) []

        -- A live node is inside by R,
        x_live : (i : ℕ) → live t i ≡ true → X i ≡ R (number_in t i)
        x_live i e = rw e

        -- and another by what the source reaches.
        x_other : (i : ℕ) → live t i ≡ false → X i ≡ marked (from_source t) i
        x_other i e = rw e

        -- Whatever is inside the source reaches.
        x_reached : (i : ℕ) → X i ≡ true → marked (from_source t) i ≡ true
        x_reached i inside =
            by_test (live t i)
            (λ e. (both_true (marked (from_source t) i) (marked (to_sink t) i) e).0)
            (λ e. sym (x_other i e) ∙ inside)

        -- It is a cut,
        x_cut : Cut (network_of t) X
        x_cut =
            record {
              source =
                  by_test (live t t.source)
                  (λ e. x_live t.source e ∙ cut.source)
                  (λ e. x_other t.source e ∙ ahead.into t.source source);
              sink =
                  by_test (live t t.sink)
                  (λ e. x_live t.sink e ∙ cut.sink)
                  (λ e.
                  x_other t.sink e
                  ∙ by_test (marked (from_source t) t.sink)
                  (λ r. absurd (true≢false (sym (and_true _ (marked (to_sink t) t.sink) r (behind.into t.sink arrived)) ∙ e)))
                  (λ r. r));
            }

        -- A kept arc does not leave it.
        x_kept : (k : ℕ) (b : Bool) → k < arcs t → keeps_arc t k ≡ true → 0 < residual_over (network_of t) (at_place (put_back t flow)) k b
            → X (near_end (network_of t) k b) ≡ true → X (far_end (network_of t) k b) ≡ true
        x_kept k true l e left inside =
            let q = rank (keeps_arc t) k in
            let known = kept_arc k e in
            let below : q < length (map (λ k. capacity t k) (arc_origins t)) = omega (arith, rank_below (keeps_arc t) k (arcs t) e l, map_long (λ k. capacity t k) (arc_origins t)) in
            x_live (head t k) known.head_live
            ∙ ap R (sym (row_at (λ k. number_in t (head t k)) k l e))
            ∙ closed q true below (omega (arith, left, back_there k l, back_kept k e, row_at (λ k. capacity t k) k l e))
            (ap R (row_at (λ k. number_in t (tail t k)) k l e) ∙ sym (x_live (tail t k) known.tail_live) ∙ inside)
        x_kept k false l e left inside =
            let q = rank (keeps_arc t) k in
            let known = kept_arc k e in
            let below : q < length (map (λ k. capacity t k) (arc_origins t)) = omega (arith, rank_below (keeps_arc t) k (arcs t) e l, map_long (λ k. capacity t k) (arc_origins t)) in
            x_live (tail t k) known.tail_live
            ∙ ap R (sym (row_at (λ k. number_in t (tail t k)) k l e))
            ∙ closed q false below (omega (arith, left, back_there k l, back_kept k e))
            (ap R (row_at (λ k. number_in t (head t k)) k l e) ∙ sym (x_live (head t k) known.head_live) ∙ inside)

        -- Another arc with residual goes from a node that the source reaches to one that does not reach the sink.
        x_idle : (k : ℕ) → k < arcs t → keeps_arc t k ≡ false → 0 < capacity t k → X (tail t k) ≡ true → X (head t k) ≡ true
        x_idle k l e some inside =
            let from : marked (from_source t) (tail t k) ≡ true = x_reached (tail t k) inside in
            let to : marked (from_source t) (head t k) ≡ true = ahead.into (head t k) (along k true l (omega arith) (ahead.from (tail t k) from)) in
            by_test (live t (head t k))
            (λ lively.
            let end = (both_true (marked (from_source t) (head t k)) (marked (to_sink t) (head t k)) lively).1 in
            let start : live t (tail t k) ≡ true =
            and_true (marked (from_source t) (tail t k)) _ from (behind.into (tail t k) (onward k true l (omega arith) (behind.from (head t k) end))) in
            absurd (true≢false (sym (arc_kept k some start lively) ∙ e)))
            (λ not_live. x_other (head t k) not_live ∙ to)

        -- So nothing residual leaves it.
        x_closed : Closed (network_of t) (at_place (put_back t flow)) X
        x_closed k b l left inside = by_test (keeps_arc t k) (λ e. x_kept k b l e left inside) (λ e. other b e left inside)
          where
            other : (b : Bool) → keeps_arc t k ≡ false → 0 < residual_over (network_of t) (at_place (put_back t flow)) k b
                → X (near_end (network_of t) k b) ≡ true → X (far_end (network_of t) k b) ≡ true
            other true e left inside = x_idle k l e (omega arith) inside
            other false e left inside = absurd (omega (arith, left, back_there k l, back_other k e))

  -- ---- the whole

  -- The smaller table's flow put back is a largest flow of the old table; its side is the smallest least cut, and its value that of the smaller table.
  pub back_best : Best t (back_flow t) (back_side t) (value (smaller t) (run (smaller t)).state.flow)
  back_best =
      let small = smaller_accepted in
      let flow : List ℕ = (run (smaller t)).state.flow in
      let best = run_best (smaller t) small in
      let f = back_flow_lem flow best.answer.valid in
      let R : ℕ → Bool = marked (side_of (smaller t) flow) in
      let closed = reach_closed (network_of (smaller t)) (at_place flow) R best.reached in
      let cut = best.answer.least.cut in
      let sound = accepted_sound t ok in
      let side : ℕ → Bool = marked (back_side t) in
      let reached : Reached (network_of t) (at_place (back_flow t)) side = side_reached (network_of t) (at_place (back_flow t)) sound in
      let no_sink : side t.sink ≡ false =
      by_test (side t.sink)
      (λ e.
      absurd
      (true≢false
      (sym (reach_inside (network_of t) (at_place (back_flow t)) (X flow best.answer.valid R cut closed) (x_closed flow best.answer.valid R cut closed) (x_cut flow best.answer.valid R cut closed).source (reached.from t.sink e))
      ∙ (x_cut flow best.answer.valid R cut closed).sink)))
      (λ e. e) in
      let answer : Answer (network_of t) (at_place (back_flow t)) side = reached_answer (network_of t) sound (at_place (back_flow t)) f side reached no_sink in
      let net = back_value flow best.answer.valid _ best.net in
      record {
        answer = answer;
        reached = reached;
        net = net;
        cut = omega (arith, net, answer.value, no_minimums_enter (network_of t) side (no_minimums t));
      }
