-- The rows of the joined network make it, and going on in it from nothing tells whether some flow keeps all arcs between their numbers.
use Prim.Native.Nat.{ℕ, ◌+◌, ◌-◌, ◌≤◌}
use mathlib.Core.Path.{◌≡◌, refl, ap, sym, subst, ◌∙◌}
use mathlib.Core.Bool.{Bool, true, false, true≢false}
use mathlib.Core.List.{List}
use native.Mathlib.Omega.{arith}
use lib.Dec.{eqb}
use lib.ListN.{length, replicate, length-replicate}
use Rattle.rows.specs.Row.{at_place}
use Rattle.rows.specs.Sum.{only}
use Rattle.rows.proofs.Rows.{zero_at}
use Rattle.rows.proofs.Sums.{sum_zero, only_of_zero}
use Rattle.network.specs.Network.{Network, Flow, Maximum, inflow, outflow, Sound}
use Rattle.shortest.specs.Augment.{bound_network, settled}
use Rattle.shortest.specs.Rows.{Ready}
use Rattle.shortest.proofs.Settling.{settled_answer}
use Rattle.start.specs.Sums.{sum_at}
use Rattle.arcs.specs.Ends.{WideEnds}
use Rattle.arcs.specs.Work.{work_end}
use Rattle.joined.specs.Joined.{Joins}
use Rattle.joined.proofs.Joining.{joined_sound, largest_fills, filled_flow}
use Rattle.table.specs.Table.{Table}
use Rattle.minimums.specs.BoundedTable.{BoundedTable, bounded_of, AcceptedBounded}
use Rattle.joining.specs.Joining.{joined_arcs, joined_table, JoinedRows}
use Rattle.joining.proofs.Blocks.{block_old, block_in, block_out, block_forth, block_back, block_last}
use Rattle.feasible.specs.Flows.{bounded_network, BoundedFlow, NoFlow}
use Rattle.feasible.specs.Filling.{Full}
use Rattle.feasible.specs.Deciding.{Feasible}
use Rattle.feasible.proofs.Accepting.{bounded_sound, all_capacities}
use Rattle.feasible.proofs.Places.{tail_is, head_is, capacity_is, tails_long, heads_long, capacities_long, spare_is}

-- What a row holds at a head is what enters the node,
pub held_enters : (n s t : ℕ) (tails heads capacities minimums row : List ℕ) (i : ℕ)
    → sum_at heads row i (length capacities) ≡ inflow (bound_network n s t tails heads capacities minimums) (at_place row) i
unfolding inflow
held_enters n s t tails heads capacities minimums row i = refl

-- and at a tail what leaves it.
pub held_leaves : (n s t : ℕ) (tails heads capacities minimums row : List ℕ) (i : ℕ)
    → sum_at tails row i (length capacities) ≡ outflow (bound_network n s t tails heads capacities minimums) (at_place row) i
unfolding outflow
held_leaves n s t tails heads capacities minimums row i = refl

module _ (N : Network) (places i : ℕ) where
  -- Of zeros nothing enters a node,
  none_enters : inflow N (at_place (replicate places 0)) i ≡ 0
  unfolding inflow
  none_enters = sum_zero N.m _ (λ k _. ap (only (eqb (N.head k) i)) (zero_at places k) ∙ only_of_zero (eqb (N.head k) i))

  -- and nothing leaves it.
  none_leaves : outflow N (at_place (replicate places 0)) i ≡ 0
  unfolding outflow
  none_leaves = sum_zero N.m _ (λ k _. ap (only (eqb (N.tail k) i)) (zero_at places k) ∙ only_of_zero (eqb (N.tail k) i))

module _ {n s t : ℕ} {tails heads capacities minimums : List ℕ} (accepted : AcceptedBounded (bounded_of n s t tails heads capacities minimums))
    {tails₂ heads₂ capacities₂ zeros : List ℕ} (joined : JoinedRows (bounded_of n s t tails heads capacities minimums) tails₂ heads₂ capacities₂)
    (zeros_are : zeros ≡ replicate (joined_arcs n (length capacities)) 0) where
  -- The bounded network, and the joined one.
  abbrev N : Network
  N = bounded_network (bounded_of n s t tails heads capacities minimums)

  abbrev J : Network
  J = bound_network (n + 2) (n + 1) (n + 2) tails₂ heads₂ capacities₂ zeros

  abbrev m : ℕ
  m = length capacities

  -- The node of a place in the second block,
  less_in : (j : ℕ) → m + j - m + 1 ≡ j + 1
  less_in j = omega arith

  -- and in the third.
  less_out : (j : ℕ) → m + (n + j) - (m + n) + 1 ≡ j + 1
  less_out j = omega arith

  -- They make the joined network.
  joins : Joins N J 4096000000
  joins =
      record {
        nodes = refl;
        arcs = capacities_long joined;
        source = refl;
        sink = refl;
        low = λ k l. ap (λ r. at_place r k) zeros_are ∙ zero_at (joined_arcs n m) k;
        old_tail = λ k l. tail_is joined k (omega arith) ∙ sym (block_old n m k _ _ _ _ _ l);
        old_head = λ k l. head_is joined k (omega arith) ∙ sym (block_old n m k _ _ _ _ _ l);
        old_capacity = λ k l. omega (arith, spare_is joined k l, accepted.rows.within k l);
        in_tail = λ j l. tail_is joined (m + j) (omega arith) ∙ sym (block_in n m (m + j) _ _ _ _ _ (omega arith) (omega arith));
        in_head = λ j l.
            head_is joined (m + j) (omega arith) ∙ sym (block_in n m (m + j) _ _ _ _ _ (omega arith) (omega arith)) ∙ less_in j;
        in_capacity = λ j l.
            capacity_is joined (m + j) (omega arith)
            ∙ sym (block_in n m (m + j) _ _ _ _ _ (omega arith) (omega arith))
            ∙ ap (λ i. sum_at heads minimums i m) (less_in j)
            ∙ held_enters n s t tails heads capacities minimums minimums (j + 1);
        out_tail = λ j l.
            tail_is joined (m + (n + j)) (omega arith) ∙ sym (block_out n m (m + (n + j)) _ _ _ _ _ (omega arith) (omega arith)) ∙ less_out j;
        out_head = λ j l. head_is joined (m + (n + j)) (omega arith) ∙ sym (block_out n m (m + (n + j)) _ _ _ _ _ (omega arith) (omega arith));
        out_capacity = λ j l.
            capacity_is joined (m + (n + j)) (omega arith)
            ∙ sym (block_out n m (m + (n + j)) _ _ _ _ _ (omega arith) (omega arith))
            ∙ ap (λ i. sum_at tails minimums i m) (less_out j)
            ∙ held_leaves n s t tails heads capacities minimums minimums (j + 1);
        forth_tail = tail_is joined _ (omega arith) ∙ sym (block_forth n m (m + (n + (n + 0))) _ _ _ _ _ (omega arith) (omega arith));
        forth_head = head_is joined _ (omega arith) ∙ sym (block_forth n m (m + (n + (n + 0))) _ _ _ _ _ (omega arith) (omega arith));
        forth_capacity = capacity_is joined _ (omega arith) ∙ sym (block_last n m (m + (n + (n + 0))) _ _ _ _ _ refl (omega arith));
        back_tail = tail_is joined _ (omega arith) ∙ sym (block_back n m (m + (n + (n + 1))) _ _ _ _ _ (omega arith) (λ e. omega arith));
        back_head = head_is joined _ (omega arith) ∙ sym (block_back n m (m + (n + (n + 1))) _ _ _ _ _ (omega arith) (λ e. omega arith));
        back_capacity = capacity_is joined _ (omega arith) ∙ sym (block_last n m (m + (n + (n + 1))) _ _ _ _ _ refl (omega arith));
        enough = all_capacities (bounded_of n s t tails heads capacities minimums) accepted;
      }

  -- N is sound, and so is J.
  sound : Sound N
  sound = bounded_sound (bounded_of n s t tails heads capacities minimums) accepted

  sound₂ : Sound J
  sound₂ = joined_sound N J 4096000000 sound joins

  module _ {flow₂ : List ℕ} (nothing : flow₂ ≡ replicate (joined_arcs n (length capacities)) 0) where
    -- Nothing flows in it: that is a flow,
    empty_flow : Flow J (at_place flow₂)
    empty_flow =
        subst (λ r. Flow J (at_place r)) (sym nothing)
        (record {
          low = λ k l. omega (arith, joins.low k l);
          high = λ k l. omega (arith, zero_at (joined_arcs n m) k);
          kept = λ i v. none_enters J (joined_arcs n m) i ∙ sym (none_leaves J (joined_arcs n m) i);
        })

    -- so the joined rows are ready to go on,
    pub joined_ready : Ready (bounded_of (n + 2) (n + 1) (n + 2) tails₂ heads₂ capacities₂ zeros) flow₂
    joined_ready =
        let few = accepted.rows.arcs.ends.few_arcs in
        let nodes = accepted.rows.arcs.ends.few_nodes in
        let long = accepted.rows.arcs.capacities_long in
        record {
          rows =
              record {
                arcs =
                    record {
                      ends =
                          record {
                            few_nodes = omega arith;
                            few_arcs = omega (arith, tails_long joined);
                            heads_long = heads_long joined ∙ sym (tails_long joined);
                            tail_node = λ k l. sound₂.tails k (omega (arith, tails_long joined, capacities_long joined));
                            head_node = λ k l. sound₂.heads k (omega (arith, tails_long joined, capacities_long joined));
                            no_loop = λ k l. sound₂.loopless k (omega (arith, tails_long joined, capacities_long joined));
                          };
                      capacities_long = capacities_long joined ∙ sym (tails_long joined);
                    };
                minimums_long = ap length zeros_are ∙ length-replicate (joined_arcs n m) 0 ∙ sym (capacities_long joined);
                flow_long = omega (arith, ap length nothing, length-replicate {A = ℕ} (joined_arcs n m) 0, capacities_long joined);
              };
          source = sound₂.source;
          sink = sound₂.sink;
          apart = sound₂.apart;
          valid = empty_flow;
        }

    -- their lists can be made,
    pub joined_lists : (room : ℕ) → work_end 514 5122 ≤ room → WideEnds (n + 2) tails₂ heads₂ × (work_end (n + 2) (length tails₂) ≤ room)
    joined_lists room h =
        let few = accepted.rows.arcs.ends.few_arcs in
        let nodes = accepted.rows.arcs.ends.few_nodes in
        let long = accepted.rows.arcs.capacities_long in
        (joined_ready.rows.arcs.ends, omega (arith, tails_long joined))

    module _ {gone : List ℕ} (is : gone ≡ settled J flow₂) where
      -- and the end is a largest flow of the joined network.
      largest : Flow J (at_place gone) × Maximum J (at_place gone)
      largest =
          let answer = settled_answer J sound₂ flow₂ (record { long = joined_ready.rows.flow_long; valid = joined_ready.valid }) in
          (subst (λ r. Flow J (at_place r)) (sym is) answer.valid, subst (λ r. Maximum J (at_place r)) (sym is) answer.maximum)

      -- The new source's arcs are full: with the minimums it is a flow that keeps all arcs between their numbers.
      pub full_keeps : Full capacities₂ gone m (m + n) true → BoundedFlow (bounded_of n s t tails heads capacities minimums) (λ k. at_place gone k + at_place minimums k)
      full_keeps full =
          filled_flow N J 4096000000 sound joins (at_place gone) largest.0 (λ j l. full.all refl (m + j) (omega arith) (omega arith))

      -- They are not: no flow does.
      pub not_full_none : Full capacities₂ gone m (m + n) false → NoFlow (bounded_of n s t tails heads capacities minimums)
      not_full_none full h kept =
          let (k, from, to, differ) = full.some refl in
          differ
          (subst (λ p. at_place gone p ≡ at_place capacities₂ p) (at_least k from)
          (sym (largest_fills N J 4096000000 sound joins h kept (at_place gone) largest.0 largest.1 (k - m) (omega arith))))
        where
          at_least : (k : ℕ) → m ≤ k → m + (k - m) ≡ k
          at_least k l = omega arith

      -- So the test tells.
      pub feasible_by : (yes : Bool) → Full capacities₂ gone m (m + n) yes → Feasible (bounded_of n s t tails heads capacities minimums) gone yes
      feasible_by true full = record { keeps = λ _. full_keeps full; none = λ e. absurd (true≢false e) }
      feasible_by false full = record { keeps = λ e. absurd (true≢false (sym e)); none = λ _. not_full_none full }

-- The same of a table that is the joined one.
module _ {b : BoundedTable} (accepted : AcceptedBounded b) {t : Table} (is : t ≡ joined_table b) {zeros flow : List ℕ}
    (zeros_are : zeros ≡ replicate (joined_arcs b.table.nodes (length b.table.capacities)) 0)
    (nothing : flow ≡ replicate (joined_arcs b.table.nodes (length b.table.capacities)) 0) where
  -- Its rows are the joined ones,
  hold : JoinedRows b (joined_table b).tails (joined_table b).heads (joined_table b).capacities
  hold = record { tails_hold = refl; heads_hold = refl; capacities_hold = refl }

  -- ready to go on,
  pub table_ready : Ready (record { table = t; minimums = zeros }) flow
  table_ready =
      subst (λ (j : Table). Ready (record { table = j; minimums = zeros }) flow) (sym is) (joined_ready accepted hold zeros_are nothing)

  -- with room for their lists;
  pub table_lists : (room : ℕ) → work_end 514 5122 ≤ room → WideEnds t.nodes t.tails t.heads × (work_end t.nodes (length t.tails) ≤ room)
  table_lists room h =
      subst (λ (j : Table). WideEnds j.nodes j.tails j.heads × (work_end j.nodes (length j.tails) ≤ room)) (sym is)
      (joined_lists accepted hold zeros_are nothing room h)

  -- as many capacities as it has arcs;
  pub table_long : length t.capacities ≡ joined_arcs b.table.nodes (length b.table.capacities)
  table_long = ap (λ (j : Table). length j.capacities) is ∙ capacities_long hold

  -- and the test of the new source's arcs tells.
  pub table_tells : {gone : List ℕ} → gone ≡ settled (bound_network t.nodes t.source t.sink t.tails t.heads t.capacities zeros) flow → (yes : Bool)
      → Full t.capacities gone (length b.table.capacities) (length b.table.capacities + b.table.nodes) yes → Feasible b gone yes
  table_tells {gone} =
      subst
      (λ (j : Table).
      gone ≡ settled (bound_network j.nodes j.source j.sink j.tails j.heads j.capacities zeros) flow → (yes : Bool)
      → Full j.capacities gone (length b.table.capacities) (length b.table.capacities + b.table.nodes) yes → Feasible b gone yes)
      (sym is)
      (λ so yes full. feasible_by accepted hold zeros_are nothing so yes full)
