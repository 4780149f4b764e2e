-- Laws of the start's excess: what the filled arcs below a place have brought to each node.
use Prim.Native.Nat.{ℕ, suc, ◌+◌, ◌-◌, ◌≤◌, ◌<◌}
use native.Mathlib.Numerals.{add-one}
use native.Mathlib.Omega.{arith}
use mathlib.Core.Path.{◌≡◌, refl, ap, sym, ◌∙◌}
use mathlib.Core.Bool.{true, false}
use mathlib.Core.List.{List}
use lib.ListN.{length, set, replicate, length-set}
use lib.Seq.{get_or-set_same, get_or-set_other}
use lib.Dec.{eqb}
use borrow.Author.Tests.{eq-eqb, ne_eqb}
use Rattle.rows.specs.Row.{Node, at_place, at_node, by_node}
use Rattle.rows.specs.Sum.{sum, only, total}
use Rattle.rows.proofs.Sums.{by_equal, only_of_zero}
use Rattle.rows.proofs.Rows.{node_at, length_places, at_places, at_nodes, row_is, places_same, zeros_by_place}
use Rattle.network.specs.Network.{is_inner, inflow}
use Rattle.network.proofs.Notions.{source_test, sink_test}
use Rattle.network.proofs.Start.{first_outflow}
use Rattle.network.proofs.Agree.{inflow_agree, outflow_agree}
use Rattle.rows.proofs.Rows.{total_set}
use Rattle.run.proofs.Networks.{inner_other}
use Rattle.table.specs.Table.{Table, network_of, arcs, tail, head, capacity}
use Rattle.run.specs.Start.{start_flow_at, start_flow, excess_at, start}
use Rattle.run.proofs.Beginning.{start_flow_at_lem}
use Rattle.start.specs.Sums.{received}

-- What node i holds of the filled arcs below place k.
abbrev pub held : Table → ℕ → ℕ → ℕ
held t k i = only (is_inner (network_of t) i) (sum k (λ j. only (eqb (head t j) i) (start_flow_at t j)))

module _ (t : Table) (k i : ℕ) where
  -- An arc to another node brings nothing,
  held_past : (head t k ≡ i → ⊥) → held t k i ≡ held t (k + 1) i
  unfolding sum
  held_past other = rw add-one (ap (only (is_inner (network_of t) i)) (rw (ne_eqb (head t k) i other) (omega arith)))

  -- nor does one that is not filled,
  held_empty : (tail t k ≡ t.source → ⊥) → held t k i ≡ held t (k + 1) i
  unfolding sum
  held_empty other =
      rw add-one
      (ap (only (is_inner (network_of t) i)) (rw (ne_eqb (tail t k) t.source other, only_of_zero (eqb (head t k) i)) (omega arith)))

  -- and a filled arc brings its capacity to its head.
  held_gain : tail t k ≡ t.source → head t k ≡ i → is_inner (network_of t) i ≡ true → held t k i + capacity t k ≡ held t (k + 1) i
  unfolding sum
  held_gain from to inside = rw add-one (rw (inside, eq-eqb (head t k) i to, eq-eqb (tail t k) t.source from))

  -- What is not inner holds nothing.
  held_outer : is_inner (network_of t) i ≡ false → held t k i ≡ held t (k + 1) i
  held_outer outside = rw outside

-- A store at node j makes the row of g, where g is f but for j.
row_set : (f g : ℕ → ℕ) (n j x : ℕ) → Node n j → x ≡ g j → ((i : ℕ) → (i ≡ j → ⊥) → f i ≡ g i) → set (by_node f n) (j - 1) x ≡ by_node g n
row_set f g n j x v here others =
    row_is (λ k. g (suc k)) n (set (by_node f n) (j - 1) x) (length-set (by_node f n) (j - 1) x ∙ length_places _ n) each
  where
    each : (k : ℕ) → k < n → at_place (set (by_node f n) (j - 1) x) k ≡ g (suc k)
    each k l =
        by_equal k (j - 1)
        (λ e.
        let node : j ≡ suc k = omega arith in
        ap (λ p. at_place (set (by_node f n) (j - 1) x) p) e ∙ get_or-set_same (by_node f n) (j - 1) x 0 (omega (arith, length_places (λ k. f (suc k)) n))
        ∙ here ∙ ap g node)
        (λ e. get_or-set_other (by_node f n) (j - 1) k x 0 e ∙ at_places _ n k l ∙ others (suc k) (λ q. e (omega arith)))

module _ (t : Table) (n k : ℕ) where
  -- The row after one more filled arc,
  pub row_received : tail t k ≡ t.source → (head t k ≡ t.source → ⊥) → Node n (head t k)
      → received (by_node (held t k) n) t.sink (head t k) (capacity t k) ≡ by_node (held t (k + 1)) n
  row_received from not_source v =
      by_equal (head t k) t.sink
      (λ e.
      rw (eq-eqb (head t k) t.sink e)
      (places_same _ _ n
      (λ p _. by_equal (head t k) (suc p) (λ q. held_outer t k (suc p) (sink_test (network_of t) (suc p) (sym q ∙ e))) (λ q. held_past t k (suc p) q))))
      (λ not_sink.
      rw (ne_eqb (head t k) t.sink not_sink)
      (row_set (held t k) (held t (k + 1)) n (head t k) (at_node (by_node (held t k) n) (head t k) + capacity t k) v
      (rw (at_nodes (held t k) n (head t k) v) (held_gain t k (head t k) from refl (inner_other t (head t k) not_source not_sink)))
      (λ i other. held_past t k i (λ q. other (sym q)))))

  -- and after one that is not filled.
  pub row_passed : (tail t k ≡ t.source → ⊥) → by_node (held t k) n ≡ by_node (held t (k + 1)) n
  row_passed other = places_same _ _ n (λ p _. held_empty t k (suc p) other)

-- Before any arc it is a row of zeros,
pub row_first : (t : Table) (n : ℕ) → replicate n 0 ≡ by_node (held t 0) n
unfolding sum
row_first t n = zeros_by_place n ∙ places_same _ _ n (λ p _. sym (only_of_zero (is_inner (network_of t) (suc p))))

-- and after all of them the start's excess.
pub row_last : (t : Table) → by_node (held t (arcs t)) t.nodes ≡ (start t).excess
unfolding start excess_at inflow
row_last t = places_same _ _ t.nodes (λ p _. each (suc p))
  where
    each : (i : ℕ) → held t (arcs t) i ≡ excess_at t (start_flow t) i
    each i =
        by_equal i t.source
        (λ e. rw (source_test (network_of t) i e))
        (λ other.
        ap (only (is_inner (network_of t) i))
        (omega (
          arith,
          first_outflow (network_of t) i other,
          inflow_agree (network_of t) (at_place (start_flow t)) (start_flow_at t) (start_flow_at_lem t) i,
          outflow_agree (network_of t) (at_place (start_flow t)) (start_flow_at t) (start_flow_at_lem t) i,
        )))

-- ---- the sum of the row

-- What a node receives is all that the sum gains.
pub total_received : (row : List ℕ) (sink j c : ℕ) → Node (length row) j → total (received row sink j c) ≤ total row + c
total_received row sink j c v =
    by_equal j sink
    (λ e. rw (eq-eqb j sink e) (omega arith))
    (λ other. rw (ne_eqb j sink other) (omega (arith, total_set row (j - 1) (at_node row j + c) (omega arith), node_at row j v.0)))
