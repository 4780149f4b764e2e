-- The test for a maximum flow is exact.
use Rattle.std.proofs.Common.{◌≡◌, ℕ, zero, suc, ◌<◌, ◌≤◌, Bool, true, false, not, leb, List, length, sym, refl, ap, ◌∙◌, true≢false, arith, eq-eqb, ne_eqb, eqb-true, le-leb, leb-true}
use borrow.Author.Tests.{not-true}
use Rattle.std.proofs.Common.{get_or, subst, zero-add}
use Rattle.std.specs.Bool.{MatchBool}
use Rattle.std.specs.List.{AllWithin, HoldsAt, range_with_len}
use Rattle.std.proofs.lemmas.List.FromFn.{length-range_with_len, get_or-range_with_len}
use Rattle.rows.specs.Row.{at_place}
use Rattle.rows.proofs.Sums.{by_test, both_true, by_equal}
use Rattle.network.specs.Network.{Inner, Flow, inflow, outflow, Sound}
use Rattle.network.proofs.Cuts.{reached_answer}
use Rattle.table.specs.Table.{Table, arcs, capacity, network_of}
use Rattle.table.specs.Accepted.{Accepted}
use Rattle.reach.specs.Side.{marked, side_of}
use Rattle.reach.proofs.Side.{side_reached}
use Rattle.run.proofs.Networks.{accepted_sound}
use Rattle.shortest.proofs.Settling.{maximum_stops, stopped_unreached}
use Rattle.opening.specs.Maximum.{MaximumFlow, all_below, is_within, keeps, is_kept, is_flow, is_maximum}

-- A test that passes at every place below k passes at each of them,
pub below_all : (test : ℕ → Bool) (k : ℕ) → all_below test k ≡ true → (p : ℕ) → p < k → test p ≡ true
unfolding all_below
below_all test zero e p l = absurd (omega arith)
below_all test (suc k) e p l =
    let (before, here) = both_true (all_below test k) (test k) e in
    by_equal p k (λ q. ap test q ∙ here) (λ q. below_all test k before p (omega arith))

-- and the other way round.
pub all_below_lem : (test : ℕ → Bool) (k : ℕ) → ((p : ℕ) → p < k → test p ≡ true) → all_below test k ≡ true
unfolding all_below
all_below_lem test zero h = refl
all_below_lem test (suc k) h = rw (all_below_lem test k (λ p l. h p (omega arith)), h k (omega arith))

-- A place where it fails,
pub all_broken : (test : ℕ → Bool) (m k : ℕ) → k < m → test k ≡ false → all_below test m ≡ false
all_broken test m k l fails = by_test (all_below test m) (λ e. absurd (true≢false (sym (below_all test m e k l) ∙ fails))) (λ e. e)

-- and another test that agrees.
pub all_same : (test other : ℕ → Bool) (k : ℕ) → ((p : ℕ) → p < k → test p ≡ other p) → all_below test k ≡ all_below other k
unfolding all_below
all_same test other zero h = refl
all_same test other (suc k) h = rw (all_same test other k (λ p l. h p (omega arith)), h k (omega arith))

-- What an iterator's `all` over the places below n says of a test.
pub told_by_all : (test : ℕ → Bool) (n : ℕ) (told : Bool)
    → MatchBool told (AllWithin (λ k. test k ≡ true) (range_with_len 0 n) 0 (length (range_with_len 0 n))) ((k : ℕ) × (k < length (range_with_len 0 n)) × HoldsAt (λ k. test k ≡ false) (range_with_len 0 n) k)
    → told ≡ all_below test n
told_by_all test n told h = go told h
  where
    at : (k : ℕ) → k < n → get_or (range_with_len 0 n) k 0 ≡ k
    at k l = get_or-range_with_len 0 n k 0 l ∙ zero-add k

    go : (told : Bool)
        → MatchBool told (AllWithin (λ k. test k ≡ true) (range_with_len 0 n) 0 (length (range_with_len 0 n))) ((k : ℕ) × (k < length (range_with_len 0 n)) × HoldsAt (λ k. test k ≡ false) (range_with_len 0 n) k)
        → told ≡ all_below test n
    go true all =
        sym (all_below_lem test n (λ p l. subst (λ q. test q ≡ true) (at p l) (all p 0 (omega arith) (omega (arith, length-range_with_len 0 n)))))
    go false some =
        let below : some.0 < n = omega (arith, some.1, length-range_with_len 0 n) in
        sym (all_broken test n some.0 below (subst (λ q. test q ≡ false) (at some.0 below) (some.2 0)))

-- An inner node that passes keeps what enters it,
kept_there : (s t i a b : ℕ) → keeps s t i a b ≡ true → (i ≡ s → ⊥) → (i ≡ t → ⊥) → a ≡ b
kept_there s t i a b e not_source not_sink = eqb-true a b (rw (ne_eqb i s not_source, ne_eqb i t not_sink) at e)

-- and the other way round.
there_kept : (s t i a b : ℕ) → ((i ≡ s → ⊥) → (i ≡ t → ⊥) → a ≡ b) → keeps s t i a b ≡ true
there_kept s t i a b h =
    by_equal i s
    (λ e. rw (eq-eqb i s e))
    (λ not_source.
    by_equal i t
    (λ e. rw (ne_eqb i s not_source, eq-eqb i t e))
    (λ not_sink. rw (ne_eqb i s not_source, ne_eqb i t not_sink, eq-eqb a b (h not_source not_sink))))

module _ (t : Table) (flow : List ℕ) where
  -- The two tests, of the arc at a place and of the node behind it.
  abbrev fits : ℕ → Bool
  fits k = leb (at_place flow k) (capacity t k)

  -- The test of the node behind a place.
  abbrev stays : ℕ → Bool
  stays k = keeps t.source t.sink (suc k) (inflow (network_of t) (at_place flow) (suc k)) (outflow (network_of t) (at_place flow) (suc k))

  -- What passes the test for a flow is one,
  pub test_flow : is_flow t flow ≡ true → Flow (network_of t) (at_place flow)
  unfolding is_flow is_within is_kept
  test_flow e =
      let (within, kept) = both_true (all_below fits (arcs t)) (all_below stays t.nodes) e in
      record {
        low = λ k l. omega arith;
        high = λ k l. leb-true (at_place flow k) (capacity t k) (below_all fits (arcs t) within k l);
        kept = λ i inner. at kept i inner;
      }
    where
      at : all_below stays t.nodes ≡ true → (i : ℕ) → Inner (network_of t) i → inflow (network_of t) (at_place flow) i ≡ outflow (network_of t) (at_place flow) i
      at kept zero inner = absurd (omega (arith, inner.node.0))
      at kept (suc k) inner =
          kept_there t.source t.sink (suc k) (inflow (network_of t) (at_place flow) (suc k)) (outflow (network_of t) (at_place flow) (suc k))
          (below_all stays t.nodes kept k (omega (arith, inner.node.1))) inner.not_source inner.not_sink

  -- and every flow passes.
  pub flow_test : Flow (network_of t) (at_place flow) → is_flow t flow ≡ true
  unfolding is_flow is_within is_kept
  flow_test f =
      rw (
        all_below_lem fits (arcs t) (λ k l. le-leb (at_place flow k) (capacity t k) (f.high k l)),
        all_below_lem stays t.nodes
            (λ k l.
            there_kept t.source t.sink (suc k) (inflow (network_of t) (at_place flow) (suc k)) (outflow (network_of t) (at_place flow) (suc k))
            (λ not_source not_sink. f.kept (suc k) (record { node = (omega arith, omega arith); not_source = not_source; not_sink = not_sink }))),
      )

  module _ (ok : Accepted t) where
    -- The network is sound.
    sound : Sound (network_of t)
    sound = accepted_sound t ok

    -- What passes the test for a maximum flow is one,
    pub test_maximum : is_maximum t flow ≡ true → MaximumFlow t flow
    unfolding is_maximum
    test_maximum e =
        let (passes, far) = both_true (is_flow t flow) (not (marked (side_of t flow) t.sink)) e in
        let valid = test_flow passes in
        record {
          valid = valid;
          maximum =
              (reached_answer (network_of t) sound (at_place flow) valid (marked (side_of t flow)) (side_reached (network_of t) (at_place flow) sound) (not-true (marked (side_of t flow) t.sink) far)
              ).maximum;
        }

    -- and every maximum flow passes.
    pub maximum_test : arcs t ≤ length flow → MaximumFlow t flow → is_maximum t flow ≡ true
    unfolding is_maximum
    maximum_test long most =
        let stop = maximum_stops (network_of t) sound flow (record { long = long; valid = most.valid }) most.maximum in
        let far : marked (side_of t flow) t.sink ≡ false =
        by_test (marked (side_of t flow) t.sink)
        (λ e. absurd (stopped_unreached (network_of t) sound flow stop ((side_reached (network_of t) (at_place flow) sound).from t.sink e)))
        (λ e. e) in
        rw (flow_test most.valid, far)
