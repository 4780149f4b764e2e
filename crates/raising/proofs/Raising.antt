-- One arc raised: by one unit the largest value rises by one exactly where the arc's tail is reachable and its head reaches the sink; elsewhere it never rises.
use Prim.Native.Nat.{ℕ, ◌+◌, ◌≤◌, ◌<◌}
use mathlib.Core.Path.{◌≡◌, refl, ap, sym, ◌∙◌, subst}
use mathlib.Core.Bool.{Bool, true, false, not, cond, ◌&&◌, true≢false}
use native.Mathlib.Omega.{arith}
use borrow.Author.Tests.{ltb-true, ltb-false, not-true}
use lib.Dec.{ltb}
use Rattle.rows.specs.Sum.{only}
use Rattle.rows.proofs.Sums.{by_test, by_equal, only_plus, only_le, put_same, put_other, sum_change}
use Rattle.network.specs.Network.{Network, Flow, Maximum, Cut, Reach, source, along, Reached, ToSink, arrived, onward, SinkReached, Answer, inflow, outflow, leaves, leaving, entering, near_end, far_end, residual_over, Sound, NoMinimums, Closed}
use Rattle.network.proofs.Cuts.{strong_duality, weak_duality, closed_maximum, reach_closed}
use Rattle.raising.specs.Raising.{raised_by, ValueRises, Rises, RisesBy, helps_in}
use Rattle.raising.proofs.Existence.{largest_exists, maximum_unreached}

module _ (N : Network) (a units : ℕ) where
  -- The raised network is sound where the old one is.
  raised_sound : Sound N → Sound (raised_by N a units)
  raised_sound sound =
      record {
        source = sound.source;
        sink = sound.sink;
        apart = sound.apart;
        tails = sound.tails;
        heads = sound.heads;
        loopless = sound.loopless;
      }

  -- No capacity falls.
  raised_cap : (k : ℕ) → N.capacity k ≤ (raised_by N a units).capacity k
  raised_cap k =
      by_equal k a
      (λ e. omega (arith, put_same N.capacity a (N.capacity a + units) k e, ap N.capacity e))
      (λ e. omega (arith, put_other N.capacity a (N.capacity a + units) k e))

  -- The inflow of a node is the same,
  same_inflow : (flow : ℕ → ℕ) (i : ℕ) → inflow (raised_by N a units) flow i ≡ inflow N flow i
  unfolding inflow
  same_inflow flow i = refl

  -- and its outflow,
  same_outflow : (flow : ℕ → ℕ) (i : ℕ) → outflow (raised_by N a units) flow i ≡ outflow N flow i
  unfolding outflow
  same_outflow flow i = refl

  -- and the minimums that enter a set.
  same_entering : (X : ℕ → Bool) → entering (raised_by N a units) X N.low ≡ entering N X N.low
  unfolding entering
  same_entering X = refl

  -- A flow stays a flow.
  raised_flow : (flow : ℕ → ℕ) → Flow N flow → Flow (raised_by N a units) flow
  raised_flow flow f =
      record {
        low = f.low;
        high = λ k l. omega (arith, f.high k l, raised_cap k);
        kept =
            λ i inner.
            omega (
              arith,
              same_inflow flow i,
              same_outflow flow i,
              f.kept i (record { node = inner.node; not_source = inner.not_source; not_sink = inner.not_sink }),
            );
      }

  -- A cut's capacity rises by at most so many units.
  raised_leaving : (X : ℕ → Bool) → a < N.m → leaving (raised_by N a units) X (raised_by N a units).capacity ≤ leaving N X N.capacity + units
  unfolding leaving
  raised_leaving X l =
      omega (
        arith,
        sum_change N.m (λ k. only (leaves N X k) (N.capacity k)) (λ k. only (leaves N X k) ((raised_by N a units).capacity k)) a l
            (λ k _ e. ap (only (leaves N X k)) (put_other N.capacity a (N.capacity a + units) k e)),
        ap (only (leaves N X a)) (put_same N.capacity a (N.capacity a + units) a refl),
        only_plus (leaves N X a) (N.capacity a) units,
        only_le (leaves N X a) units,
      )

  -- A set that nothing residual leaves, and that the raised arc does not leave, stays so.
  raised_closed : (flow : ℕ → ℕ) (X : ℕ → Bool) → Closed N flow X → (X (N.tail a) ≡ true → X (N.head a) ≡ true) → Closed (raised_by N a units) flow X
  raised_closed flow X closed stays k true l r e =
      by_equal k a
      (λ p. ap (λ j. X (N.head j)) p ∙ stays (ap (λ j. X (N.tail j)) (sym p) ∙ e))
      (λ p. closed k true l (omega (arith, put_other N.capacity a (N.capacity a + units) k p)) e)
  raised_closed flow X closed stays k false l r e = closed k false l r e

  -- An old residual arc leads on.
  raised_along : (flow : ℕ → ℕ) (k : ℕ) (b : Bool) → k < N.m → 0 < residual_over N flow k b
      → Reach (raised_by N a units) flow (near_end N k b) → Reach (raised_by N a units) flow (far_end N k b)
  raised_along flow k true l r way = along k true l (omega (arith, raised_cap k)) way
  raised_along flow k false l r way = along k false l r way

  -- What was reachable stays reachable.
  raised_reach : (flow : ℕ → ℕ) {i : ℕ} → Reach N flow i → Reach (raised_by N a units) flow i
  raised_reach flow source = source
  raised_reach flow (along k b l r way) = raised_along flow k b l r (raised_reach flow way)

  -- What reached the sink still does.
  raised_to_sink : (flow : ℕ → ℕ) {i : ℕ} → ToSink N flow i → Reach (raised_by N a units) flow i → Reach (raised_by N a units) flow N.t
  raised_to_sink flow arrived way = way
  raised_to_sink flow (onward k b l r rest) way = raised_to_sink flow rest (raised_along flow k b l r way)

-- From a reachable node that reaches the sink, the sink is reachable.
pub sink_reached : (N : Network) (flow : ℕ → ℕ) {i : ℕ} → ToSink N flow i → Reach N flow i → Reach N flow N.t
sink_reached N flow arrived way = way
sink_reached N flow (onward k b l r rest) way = sink_reached N flow rest (along k b l r way)

module _ (N : Network) (sound : Sound N) (none : NoMinimums N) (flow : ℕ → ℕ) (f : Flow N flow) (R : ℕ → Bool) (exact : Reached N flow R) (no_sink : R N.t ≡ false)
    (a units : ℕ) (below : a < N.m) where
  -- The smallest source side is a cut that nothing residual leaves.
  side_cut : Cut N R
  side_cut = record { source = exact.into N.s source; sink = no_sink }

  -- No flow of the raised network is more than so many units above.
  at_most : (g : ℕ → ℕ) → Flow (raised_by N a units) g
      → outflow (raised_by N a units) g N.s + inflow N flow N.s ≤ outflow N flow N.s + inflow (raised_by N a units) g N.s + units
  at_most g keeps =
      omega (
        arith,
        strong_duality N sound flow f R side_cut (reach_closed N flow R exact),
        weak_duality (raised_by N a units) (raised_sound N a units sound) g keeps R
            (record { source = side_cut.source; sink = side_cut.sink }),
        same_entering N a units R,
        raised_leaving N a units R below,
      )

  module _ (g : ℕ → ℕ) (keeps : Flow (raised_by N a units) g) (largest : Maximum (raised_by N a units) g) where
    -- Where the old flow is largest in the raised network too, the value does not move.
    still : Maximum (raised_by N a units) flow → ValueRises N flow (raised_by N a units) g 0
    still also =
        omega (
          arith,
          also g keeps,
          largest flow (raised_flow N a units flow f),
          same_inflow N a units flow N.s,
          same_outflow N a units flow N.s,
        )

    -- Tail reachable and head leading to the sink: with one unit more the value rises by one.
    pub raising_helps : units ≡ 1 → R (N.tail a) ≡ true → ToSink N flow (N.head a) → ValueRises N flow (raised_by N a units) g 1
    raising_helps one tail_in head_leads =
        let here : ℕ = outflow N flow N.s + inflow (raised_by N a units) g N.s in
        let there : ℕ = outflow (raised_by N a units) g N.s + inflow N flow N.s in
        by_test (ltb here there)
        (λ e. omega (arith, ltb-true here there e, at_most g keeps))
        (λ e. absurd (maximum_unreached (raised_by N a units) (raised_sound N a units sound) none flow (raised_flow N a units flow f)
        (also (ltb-false here there e)) way))
      where
        way : Reach (raised_by N a units) flow N.t
        way =
            raised_to_sink N a units flow head_leads
            (along a true below (omega (arith, f.high a below, put_same N.capacity a (N.capacity a + units) a refl))
            (raised_reach N a units flow (exact.from (N.tail a) tail_in)))

        also : outflow (raised_by N a units) g N.s + inflow N flow N.s ≤ outflow N flow N.s + inflow (raised_by N a units) g N.s
            → Maximum (raised_by N a units) flow
        also h other k =
            omega (arith, largest other k, same_inflow N a units flow N.s, same_outflow N a units flow N.s)

    -- Tail not reachable: the value does not move.
    pub raising_idle_tail : R (N.tail a) ≡ false → ValueRises N flow (raised_by N a units) g 0
    raising_idle_tail tail_out =
        still
        (closed_maximum (raised_by N a units) (raised_sound N a units sound) flow (raised_flow N a units flow f) R
        (record { source = side_cut.source; sink = side_cut.sink })
        (raised_closed N a units flow R (reach_closed N flow R exact) (λ e. absurd (true≢false (sym e ∙ tail_out)))))

    -- Head not leading to the sink: the value does not move.
    pub raising_idle_head : (L : ℕ → Bool) → SinkReached N flow L → L (N.head a) ≡ false → ValueRises N flow (raised_by N a units) g 0
    raising_idle_head L leading head_out =
        still
        (closed_maximum (raised_by N a units) (raised_sound N a units sound) flow (raised_flow N a units flow f) (λ i. not (L i))
        (record { source = ap not source_out; sink = ap not (leading.into N.t arrived) })
        (raised_closed N a units flow (λ i. not (L i)) closed (λ _. ap not head_out)))
      where
        source_out : L N.s ≡ false
        source_out =
            by_test (L N.s)
            (λ e. absurd (true≢false (sym (exact.into N.t (sink_reached N flow (leading.from N.s e) source)) ∙ no_sink)))
            (λ e. e)

        closed : Closed N flow (λ i. not (L i))
        closed k b l r e =
            by_test (L (far_end N k b))
            (λ p.
            absurd
            (true≢false
            (sym (leading.into (near_end N k b) (onward k b l r (leading.from (far_end N k b) p))) ∙ not-true (L (near_end N k b)) e)))
            (λ p. ap not p)

-- The raised network has a largest flow.
raised_largest : (N : Network) → Sound N → NoMinimums N → (a units : ℕ)
    → (other : ℕ → ℕ) × Flow (raised_by N a units) other × Maximum (raised_by N a units) other
raised_largest N sound none a units =
    let e = largest_exists (raised_by N a units) (raised_sound N a units sound) none in (e.flow, e.answer.valid, e.answer.maximum)

-- Of a largest flow with its side R, and the nodes L that reach the sink.
module _ (N : Network) (sound : Sound N) (none : NoMinimums N) (flow : ℕ → ℕ) (R : ℕ → Bool) (answer : Answer N flow R) (exact : Reached N flow R)
    (L : ℕ → Bool) (leading : SinkReached N flow L) (a : ℕ) (below : a < N.m) where
  -- The sink is not on the side.
  no_sink : R N.t ≡ false
  no_sink = answer.least.cut.sink

  -- Raising the arc at place a raises the value by one exactly where it helps.
  pub raising_value : RisesBy N flow a (cond (helps_in N R L a) 1 0)
  raising_value =
      record { some = raised_largest N sound none a 1; each = λ g keeps largest. go g keeps largest (R (N.tail a)) (L (N.head a)) refl refl }
    where
      go : (g : ℕ → ℕ) → Flow (raised_by N a 1) g → Maximum (raised_by N a 1) g → (x y : Bool) → R (N.tail a) ≡ x → L (N.head a) ≡ y
          → ValueRises N flow (raised_by N a 1) g (cond (x && y) 1 0)
      go g keeps largest true true p q =
          raising_helps N sound none flow answer.valid R exact no_sink a 1 below g keeps largest refl p (leading.from (N.head a) q)
      go g keeps largest true false p q =
          raising_idle_head N sound none flow answer.valid R exact no_sink a 1 below g keeps largest L leading q
      go g keeps largest false y p q =
          raising_idle_tail N sound none flow answer.valid R exact no_sink a 1 below g keeps largest p

  -- An arc that does not help leaves the value where it is, however much it is raised.
  pub raising_never : helps_in N R L a ≡ false → (units : ℕ) → Rises N flow a units 0
  raising_never idle units =
      record { some = raised_largest N sound none a units; each = λ g keeps largest. go g keeps largest (R (N.tail a)) (L (N.head a)) refl refl idle }
    where
      go : (g : ℕ → ℕ) → Flow (raised_by N a units) g → Maximum (raised_by N a units) g → (x y : Bool) → R (N.tail a) ≡ x → L (N.head a) ≡ y
          → (x && y) ≡ false → ValueRises N flow (raised_by N a units) g 0
      go g keeps largest true true p q e = absurd (true≢false e)
      go g keeps largest true false p q e =
          raising_idle_head N sound none flow answer.valid R exact no_sink a units below g keeps largest L leading q
      go g keeps largest false y p q e =
          raising_idle_tail N sound none flow answer.valid R exact no_sink a units below g keeps largest p

-- A raised arc raises the value by one number only.
raising_once : (N : Network) (flow : ℕ → ℕ) (a d e : ℕ) → RisesBy N flow a d → RisesBy N flow a e → d ≡ e
raising_once N flow a d e p q =
    let (other, keeps, largest) = p.some in
    omega (arith, p.each other keeps largest, q.each other keeps largest)

module _ (N : Network) (sound : Sound N) (none : NoMinimums N) (flow : ℕ → ℕ) (R : ℕ → Bool) (answer : Answer N flow R) (exact : Reached N flow R)
    (L : ℕ → Bool) (leading : SinkReached N flow L) (a : ℕ) (below : a < N.m) where
  -- An arc that helps raises the value by one,
  pub raising_one : helps_in N R L a ≡ true → RisesBy N flow a 1
  raising_one e = subst (λ b. RisesBy N flow a (cond b 1 0)) e (raising_value N sound none flow R answer exact L leading a below)

  -- one that does not leaves it where it is,
  pub raising_none : helps_in N R L a ≡ false → RisesBy N flow a 0
  raising_none e = subst (λ b. RisesBy N flow a (cond b 1 0)) e (raising_value N sound none flow R answer exact L leading a below)

  -- and none but those that help raise it by one.
  pub raising_only : RisesBy N flow a 1 → helps_in N R L a ≡ true
  raising_only rises =
      by_test (helps_in N R L a) (λ e. e) (λ e. let both = raising_once N flow a 1 0 rises (raising_none e) in absurd (omega (arith, both)))
