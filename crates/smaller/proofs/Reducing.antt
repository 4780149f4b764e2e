-- What is written and solved is the smaller table, and what is left is what the call promises.
use Rattle.std.specs.Prelude.{Ok, Err}
use Rattle.std.proofs.Common.{◌≡◌, ℕ, suc, ◌<◌, ◌≤◌, true, cond, List, ◌++◌, length, take, drop, sym, refl, ap, ◌∙◌, append-nil, arith, drop_of_length-le, length-take-le, get_or-take, take_at, leb-true}
use mathlib.Core.Path.{subst⁻¹}
use Rattle.rows.specs.Row.{at_place, by_place, cleared}
use Rattle.rows.proofs.Rows.{places_same, length_places}
use Rattle.rows.proofs.Sums.{by_test, both_true}
use Rattle.table.specs.Table.{Table, table_of, arcs, tail, head, capacity, network_of}
use Rattle.table.specs.Accepted.{Accepted}
use Rattle.table.specs.Checks.{is_fine, no_refusal, refused, Verdict}
use Rattle.table.specs.declared.Name.{Name}
use Rattle.table.proofs.Numbers.{number_positive}
use Rattle.minimums.specs.BoundedTable.{BoundedTable}
use Rattle.minimums.proofs.Accepting.{plain_accepts}
use Rattle.stamps.specs.Stamp.{raised}
use Rattle.arcs.specs.Work.{work_need}
use Rattle.reach.specs.Side.{side_of}
use Rattle.reach.proofs.Side.{length_of_side}
use Rattle.run.specs.Phase.{run}
use Rattle.run.proofs.Networks.{accepted_sound}
use Rattle.run.proofs.Whole.{run_bounded}
use Rattle.solver.specs.declared.Answer.{Answer}
use Rattle.solver.specs.Solving.{refusal, answer_with, solution}
use Rattle.solver.proofs.Solved.{Roomy, room_roomy}
use Rattle.listing.specs.Passing.{filled_with}
use Rattle.listing.proofs.Ranking.{map_long, rank, rank_below, filled_lists}
use Rattle.shrinking.specs.Smaller.{from_source, to_sink, arc_by, keeps_node, keeps_arc, node_origins, arc_origins, number_in, smaller, back_by, back_at, put_back, back_flow, back_side}
use Rattle.shrinking.proofs.Shrinking.{smaller_accepted, back_best}
use Rattle.shrinking.proofs.Meaning.{old_arc}
use Rattle.keeping.specs.declared.Sizes.{Sizes}
use Rattle.smaller.specs.declared.Reduced.{Reduced}
use Rattle.keeping.specs.SmallRows.{SmallRows, small_rows}
use Rattle.keeping.specs.Written.{Written}
use Rattle.smaller.specs.Reducing.{LeftReduced, left_reduced, reduced_with, shrunk, has_small_room, reducing_verdict, reducing_as, reducing, Reduces}
use Rattle.keeping.proofs.Keeping.{filled_front}

-- Equal parts make equal results,
same_result : {a b : Answer} {n n' m m' s s' t t' x x' : ℕ} → a ≡ b → n ≡ n' → m ≡ m' → s ≡ s' → t ≡ t' → x ≡ x' → reduced_with a n m s t x ≡ reduced_with b n' m' s' t' x'
same_result e1 e2 e3 e4 e5 e6 = rw (e1, e2, e3, e4, e5, e6)

-- equal rows of the smaller table,
same_rows : {d d' e e' f f' g g' h h' : List ℕ} → d ≡ d' → e ≡ e' → f ≡ f' → g ≡ g' → h ≡ h' → small_rows d e f g h ≡ small_rows d' e' f' g' h'
same_rows e1 e2 e3 e4 e5 = rw (e1, e2, e3, e4, e5)

-- and equal results and rows.
same_reduced : {r q : Reduced} {a a' b b' c c' : List ℕ} {x y : SmallRows} → r ≡ q → a ≡ a' → b ≡ b' → c ≡ c' → x ≡ y
    → left_reduced r a b c x ≡ left_reduced q a' b' c' y
same_reduced e0 e1 e2 e3 e4 = rw (e0, e1, e2, e3, e4)

-- What is written by the definitions' marks.
module _ (t : Table) (ok : Accepted t) (ahead behind : List ℕ) (by_ahead : ahead ≡ from_source t) (by_behind : behind ≡ to_sink t)
    (old : SmallRows) (sizes : Sizes) (left : SmallRows) (written : Written ahead behind t.source t.sink t.tails t.heads t.capacities old sizes left) where
  -- The smaller table, with its origins.
  pub record Made : Type 0 where
    pub nodes_are : sizes.nodes ≡ length (node_origins t)
    pub arcs_are : sizes.arcs ≡ length (arc_origins t)
    pub source_is : sizes.source ≡ (smaller t).source
    pub sink_is : sizes.sink ≡ (smaller t).sink
    pub tails_is : left.tails ≡ filled_with (smaller t).tails old.tails
    pub heads_is : left.heads ≡ filled_with (smaller t).heads old.heads
    pub capacities_is : left.capacities ≡ filled_with (smaller t).capacities old.capacities
    pub nodes_from : left.nodes_from ≡ filled_with (node_origins t) old.nodes_from
    pub arcs_from : left.arcs_from ≡ filled_with (arc_origins t) old.arcs_from

  pub made : Made
  made =
      let w = rw (by_ahead, by_behind) at written in
      let nodes : length (from_source t) ≡ t.nodes = length_of_side (network_of t) (λ k. 0) (accepted_sound t ok) in
      let long : length t.tails ≡ arcs t = sym ok.rows.capacities_long in
      record {
        nodes_are = rw nodes at w.nodes_are;
        arcs_are = rw long at w.arcs_are;
        source_is = w.source_is;
        sink_is = w.sink_is;
        tails_is = rw long at w.tails_is;
        heads_is = rw long at w.heads_is;
        capacities_is = rw long at w.capacities_is;
        nodes_from = rw nodes at w.nodes_from;
        arcs_from = rw long at w.arcs_from;
      }

  -- The table that is solved is the smaller one.
  pub small_is : table_of sizes.nodes sizes.source sizes.sink (take sizes.arcs left.tails) (take sizes.arcs left.heads) (take sizes.arcs left.capacities) ≡ smaller t
  small_is =
      rw (
        made.nodes_are,
        made.source_is,
        made.sink_is,
        filled_front (smaller t).tails old.tails left.tails sizes.arcs (made.arcs_are ∙ sym (map_long (λ k. number_in t (tail t k)) (arc_origins t))) made.tails_is,
        filled_front (smaller t).heads old.heads left.heads sizes.arcs (made.arcs_are ∙ sym (map_long (λ k. number_in t (head t k)) (arc_origins t))) made.heads_is,
        filled_front (smaller t).capacities old.capacities left.capacities sizes.arcs (made.arcs_are ∙ sym (map_long (λ k. capacity t k) (arc_origins t))) made.capacities_is,
      )

  -- The flow that is put back from a longer row is the smaller table's.
  pub back_is : (flows flow : List ℕ) → take sizes.arcs flows ≡ flow
      → by_place (back_by (arc_by ahead behind t.tails t.heads t.capacities) flows) (arcs t) ≡ put_back t flow
  back_is flows flow front =
      rw (by_ahead, by_behind)
      (places_same (back_by (keeps_arc t) flows) (back_at t flow) (arcs t)
      (λ k l.
      by_test (keeps_arc t k)
      (λ e.
      let below : rank (keeps_arc t) k < sizes.arcs = omega (arith, made.arcs_are, rank_below (keeps_arc t) k (arcs t) e l) in
      ap (λ x. cond (keeps_arc t k) x 0) (sym (get_or-take sizes.arcs flows (rank (keeps_arc t) k) 0 below) ∙ ap (λ l. at_place l (rank (keeps_arc t) k)) front))
      (λ e. rw e)))

  -- What is left, where the flow row has just m places, is what the call promises.
  pub reduced_is : (stamp : ℕ) (flow side work flows : List ℕ) (answer : Answer) (up : ℕ) (flow_left side_left work_left : List ℕ)
      → length flow ≡ arcs t → take sizes.arcs flows ≡ (run (table_of sizes.nodes sizes.source sizes.sink (take sizes.arcs left.tails) (take sizes.arcs left.heads) (take sizes.arcs left.capacities))).state.flow
      → answer ≡ solution (table_of sizes.nodes sizes.source sizes.sink (take sizes.arcs left.tails) (take sizes.arcs left.heads) (take sizes.arcs left.capacities)) stamp
      → up ≡ raised stamp
      → flow_left ≡ by_place (back_by (arc_by ahead behind t.tails t.heads t.capacities) flows) (arcs t)
      → side_left ≡ side_of t flow_left ++ drop t.nodes side → work_left ≡ cleared (work_need t.nodes (arcs t)) work
      → left_reduced (reduced_with answer sizes.nodes sizes.arcs sizes.source sizes.sink up) flow_left side_left work_left left
      ≡ shrunk t stamp flow side work old
  unfolding shrunk
  reduced_is stamp flow side work flows answer up flow_left side_left work_left long front solved risen put marked emptied =
      let f : List ℕ = (run (smaller t)).state.flow in
      let flows_are : take sizes.arcs flows ≡ f = front ∙ ap (λ (u : Table). (run u).state.flow) small_is in
      let back : flow_left ≡ put_back t f = put ∙ back_is flows f flows_are in
      let count : sizes.arcs ≡ arcs (smaller t) = made.arcs_are ∙ sym (map_long (λ k. capacity t k) (arc_origins t)) in
      let past : length flow ≤ arcs t = omega arith in
      let whole : flow_left ≡ put_back t f ++ drop (arcs t) flow = back ∙ rw (drop_of_length-le flow past, append-nil) in
      same_reduced (same_result (solved ∙ ap (λ (u : Table). solution u stamp) small_is) made.nodes_are count made.source_is made.sink_is risen)
      whole (marked ∙ ap (λ (l : List ℕ). side_of t l ++ drop t.nodes side) back) emptied
      (same_rows made.tails_is made.heads_is made.capacities_is made.nodes_from made.arcs_from)

-- The flow row's later places are as they were, where its first m were lent.
pub reduced_longer : (t : Table) (stamp : ℕ) (flow side work : List ℕ) (small : SmallRows) (r : Reduced) (flow_left side_left work_left : List ℕ) (small_left : SmallRows)
    → arcs t ≤ length flow
    → left_reduced r flow_left side_left work_left small_left ≡ shrunk t stamp (take (arcs t) flow) side work small
    → left_reduced r (flow_left ++ drop (arcs t) flow) side_left work_left small_left ≡ shrunk t stamp flow side work small
unfolding shrunk
reduced_longer t stamp flow side work small r flow_left side_left work_left small_left room same =
    let past : length (take (arcs t) flow) ≤ arcs t = omega (arith, length-take-le (arcs t) flow room) in
    ap (λ (l : LeftReduced). left_reduced l.reduced (l.flow ++ drop (arcs t) flow) l.side l.work l.small) same
    ∙ rw (drop_of_length-le (take (arcs t) flow) past, append-nil)

-- The rows for a smaller table are long enough.
pub record SmallRoomy (n m : ℕ) (small : SmallRows) : Type 0 where
  pub for_tails : m ≤ length small.tails
  pub for_heads : m ≤ length small.heads
  pub for_capacities : m ≤ length small.capacities
  pub for_nodes : n ≤ length small.nodes_from
  pub for_arcs : m ≤ length small.arcs_from

-- The test for room says so.
small_roomy : (n m : ℕ) (small : SmallRows)
    → has_small_room n m (length small.tails) (length small.heads) (length small.capacities) (length small.nodes_from) (length small.arcs_from) ≡ true → SmallRoomy n m small
unfolding has_small_room
small_roomy n m small h =
    let (p, h1) = both_true _ _ h in
    let (q, h2) = both_true _ _ h1 in
    let (r, h3) = both_true _ _ h2 in
    let (x, y) = both_true _ _ h3 in
    record { for_tails = leb-true _ _ p; for_heads = leb-true _ _ q; for_capacities = leb-true _ _ r; for_nodes = leb-true _ _ x; for_arcs = leb-true _ _ y }

-- What the smaller table solved means.
shrunk_reduces : (t : Table) → Accepted t → (stamp : ℕ) (flow side work : List ℕ) (small : SmallRows) → Reduces t (shrunk t stamp flow side work small)
unfolding shrunk answer_with
shrunk_reduces t ok stamp flow side work small =
    let counted : arcs (smaller t) ≡ length (arc_origins t) = map_long (λ k. capacity t k) (arc_origins t) in
    record {
      best =
          rw (
            take_at (back_flow t) (drop (arcs t) flow) (arcs t) (length_places (back_at t (run (smaller t)).state.flow) (arcs t)),
            take_at (back_side t) (drop t.nodes side) t.nodes (length_of_side (network_of t) (at_place (back_flow t)) (accepted_sound t ok)),
          ) (back_best t ok);
      bounded = run_bounded (smaller t) (smaller_accepted t ok);
      nodes = filled_lists (keeps_node t) (suc t.nodes) (suc t.nodes) (length (node_origins t)) small.nodes_from refl refl;
      places = filled_lists (keeps_arc t) (arcs t) (arcs t) (arcs (smaller t)) small.arcs_from refl counted;
      each = λ q l. old_arc t ok _ _ _ _ _ q (omega (arith, counted));
    }

module _ (b : BoundedTable) (stamp : ℕ) (flow side work : List ℕ) (small : SmallRows) where
  module _ (v : Verdict) (checked : v ≡ reducing_verdict b (length flow) (length side) (length work) small) where
    -- Where the checks refuse, the call gives that refusal and leaves the rows.
    pub refused_reducing : (name : Name) (place : ℕ) → v ≡ refused name place → (r : Reduced) → r ≡ reduced_with (refusal name place) 0 0 0 0 0
        → left_reduced r flow side work small ≡ reducing b stamp flow side work small
    unfolding reducing reducing_as
    refused_reducing name place same r f = rw (← checked, same) (ap (λ (x : Reduced). left_reduced x flow side work small) f)

    module _ (fine : v ≡ no_refusal) where
      -- Where they do not, it gives the smaller table solved.
      pub fine_reducing : (l : LeftReduced) → l ≡ shrunk b.table stamp flow side work small → l ≡ reducing b stamp flow side work small
      unfolding reducing reducing_as
      fine_reducing l f = rw (← checked, fine) f

      -- The table is accepted then,
      pub fine_accepted : Accepted b.table
      fine_accepted = (plain_accepts b _ (ap is_fine (sym checked ∙ fine))).0

      -- and the rows have room.
      pub fine_roomy : Roomy b.table.nodes (arcs b.table) (length flow) (length side) (length work) × SmallRoomy b.table.nodes (arcs b.table) small
      fine_roomy =
          let (p, q) = both_true _ _ (plain_accepts b _ (ap is_fine (sym checked ∙ fine))).1 in
          (room_roomy _ _ _ _ _ p, small_roomy _ _ _ q)

  -- What refuses nothing is what reducing means.
  pub reducing_reduces : (l : LeftReduced) → l ≡ reducing b stamp flow side work small → l.reduced.answer.refusal ≡ 0 → Reduces b.table l
  unfolding reducing reducing_as
  reducing_reduces l same none = go (reducing_verdict b (length flow) (length side) (length work) small) refl
    where
      by : Verdict → LeftReduced
      by v = reducing_as v b.table stamp flow side work small

      go : (v : Verdict) → v ≡ reducing_verdict b (length flow) (length side) (length work) small → Reduces b.table l
      go (Ok _) checked =
          subst⁻¹ (Reduces b.table) (same ∙ ap by (sym checked)) (shrunk_reduces b.table (fine_accepted no_refusal checked refl) stamp flow side work small)
      go (Err why) checked = absurd (number_positive why.name (ap (λ (x : LeftReduced). x.reduced.answer.refusal) (sym (same ∙ ap by (sym checked))) ∙ none))
