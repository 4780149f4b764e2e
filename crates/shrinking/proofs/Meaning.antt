-- What the smaller table means: which nodes are live, and which old arc each of its arcs is.
use Prim.Native.Nat.{ℕ, suc, ◌<◌, ◌≤◌}
use mathlib.Core.Path.{◌≡◌, ap, ap₂, sym, ◌∙◌}
use mathlib.Core.Bool.{true, false, ◌&&◌, ◌||◌}
use mathlib.Core.List.{List, [], ◌++◌, map}
use native.Mathlib.Numerals.{add-one}
use native.Mathlib.Omega.{arith}
use lib.Dec.{eqb}
use lib.ListN.{length, get_or-append}
use Rattle.rows.specs.Row.{at_place, at_node}
use Rattle.rows.proofs.Sums.{both_true}
use Rattle.network.specs.Network.{Reach, source, along, ToSink, arrived, onward}
use Rattle.table.specs.Table.{Table, arcs, tail, head, capacity, network_of}
use Rattle.table.specs.Accepted.{Accepted}
use Rattle.reach.specs.Side.{marked}
use Rattle.reach.proofs.Side.{side_reached}
use Rattle.reach.proofs.Turning.{sink_side_reached}
use Rattle.run.proofs.Networks.{accepted_sound}
use Rattle.listing.proofs.Listing.{count_next}
use Rattle.listing.proofs.Ranking.{map_at, map_long, rank, rank_below, at_rank, ranked_at}
use Rattle.shrinking.specs.Smaller.{Leads, here, over, Live, OldArc, from_source, to_sink, live, keeps_node, keeps_arc, node_origins, arc_origins, number_in, smaller}
use Rattle.shrinking.proofs.Shrinking.{kept_arc}

-- ---- live nodes

module _ (t : Table) where
  -- One way after another.
  leads_on : {i j l : ℕ} → Leads t i j → Leads t j l → Leads t i l
  leads_on here rest = rest
  leads_on (over k below open_k way) rest = over k below open_k (leads_on way rest)

  -- Where nothing flows, what the source reaches over residual arcs it reaches over arcs of capacity above 0,
  reach_leads : {i : ℕ} → Reach (network_of t) (λ k. 0) i → Leads t t.source i
  reach_leads source = here
  reach_leads (along k true below left way) = leads_on (reach_leads way) (over k below (omega arith) here)
  reach_leads (along k false below left way) = absurd (omega arith)

  -- and the other way round;
  leads_reach : {i j : ℕ} → Leads t i j → Reach (network_of t) (λ k. 0) i → Reach (network_of t) (λ k. 0) j
  leads_reach here way = way
  leads_reach (over k below open_k rest) way = leads_reach rest (along k true below (omega arith) way)

  -- what reaches the sink,
  sink_leads : {i : ℕ} → ToSink (network_of t) (λ k. 0) i → Leads t i t.sink
  sink_leads arrived = here
  sink_leads (onward k true below left way) = over k below (omega arith) (sink_leads way)
  sink_leads (onward k false below left way) = absurd (omega arith)

  -- and the other way round.
  leads_sink : {i j : ℕ} → Leads t i j → ToSink (network_of t) (λ k. 0) j → ToSink (network_of t) (λ k. 0) i
  leads_sink here way = way
  leads_sink (over k below open_k rest) way = onward k true below (omega arith) (leads_sink rest way)

  module _ (ok : Accepted t) where
    -- A live node is one that the source reaches and that reaches the sink, over arcs of capacity above 0:
    pub live_leads : (i : ℕ) → live t i ≡ true → Live t i
    live_leads i e =
        let (ahead, behind) = both_true (marked (from_source t) i) (marked (to_sink t) i) e in
        record {
          from_source = reach_leads ((side_reached (network_of t) (λ k. 0) (accepted_sound t ok)).from i ahead);
          to_sink = sink_leads ((sink_side_reached t (accepted_sound t ok) []).from i behind);
        }

    -- each such node is live.
    pub leads_live : (i : ℕ) → Live t i → live t i ≡ true
    leads_live i l =
        ap₂ ◌&&◌ ((side_reached (network_of t) (λ k. 0) (accepted_sound t ok)).into i (leads_reach l.from_source source))
        ((sink_side_reached t (accepted_sound t ok) []).into i (leads_sink l.to_sink arrived))

-- ---- arcs of the smaller table

module _ (t : Table) (ok : Accepted t) (more_nodes more_arcs more_tails more_heads more_capacities : List ℕ) where
  -- A kept node stands at its number among the origins.
  node_back : (i : ℕ) → live t i ≡ true → i ≤ t.nodes → at_node (node_origins t ++ more_nodes) (number_in t i) ≡ i
  node_back i e l =
      let kept : keeps_node t i ≡ true = ap (λ x. x || (eqb i t.source || eqb i t.sink)) e in
      let below : i < suc t.nodes = omega arith in
      ap (at_node (node_origins t ++ more_nodes)) (count_next (keeps_node t) i kept ∙ add-one (rank (keeps_node t) i))
      ∙ get_or-append (node_origins t) more_nodes 0 (rank (keeps_node t) i) (rank_below (keeps_node t) i (suc t.nodes) kept below)
      ∙ at_rank (keeps_node t) i (suc t.nodes) kept below

  -- A row of the smaller table has at q what the old arc has.
  row_at : (f : ℕ → ℕ) (more : List ℕ) (q : ℕ) → q < length (arc_origins t) → at_place (map f (arc_origins t) ++ more) q ≡ f (at_place (arc_origins t) q)
  row_at f more q l =
      get_or-append (map f (arc_origins t)) more 0 q (omega (arith, map_long f (arc_origins t))) ∙ map_at f (arc_origins t) q l

  -- The smaller table's arc at place q is the old one that it came from, renumbered, whatever stands behind it in its rows.
  pub old_arc : (q : ℕ) → q < length (arc_origins t)
      → OldArc t (node_origins t ++ more_nodes) (arc_origins t ++ more_arcs) ((smaller t).tails ++ more_tails)
      ((smaller t).heads ++ more_heads) ((smaller t).capacities ++ more_capacities) q
  old_arc q l =
      let place : ℕ = at_place (arc_origins t) q in
      let from : at_place (arc_origins t ++ more_arcs) q ≡ place = get_or-append (arc_origins t) more_arcs 0 q l in
      let ranked = ranked_at (keeps_arc t) (arcs t) q l in
      let kept = kept_arc t ok place ranked.passes in
      let tail_node = (accepted_sound t ok).tails place ranked.below in
      let head_node = (accepted_sound t ok).heads place ranked.below in
      record {
        below = omega (arith, from, ranked.below);
        tail_is =
            ap (at_node (node_origins t ++ more_nodes)) (row_at (λ k. number_in t (tail t k)) more_tails q l)
            ∙ node_back (tail t place) kept.tail_live tail_node.1 ∙ ap (tail t) (sym from);
        head_is =
            ap (at_node (node_origins t ++ more_nodes)) (row_at (λ k. number_in t (head t k)) more_heads q l)
            ∙ node_back (head t place) kept.head_live head_node.1 ∙ ap (head t) (sym from);
        capacity_is = row_at (λ k. capacity t k) more_capacities q l ∙ ap (capacity t) (sym from);
      }
