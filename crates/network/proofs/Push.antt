-- A push keeps the facts; a nonsaturating one moves at least half of Delta.
use Prim.Native.Nat.{ℕ, ◌+◌, ◌*◌, ◌-◌, ◌≤◌, ◌<◌}
use mathlib.Core.Path.{◌≡◌, refl, ap, sym, subst, ◌∙◌}
use mathlib.Core.Bool.{Bool, true, false, cond, true≢false}
use native.Mathlib.Omega.{arith}
use borrow.Author.Tests.{ltb-true, ltb-false, eq-eqb, ne_eqb}
use lib.Dec.{eqb, ltb}
use Rattle.rows.specs.Sum.{sum, only}
use Rattle.rows.specs.Row.{Node}
use Rattle.rows.proofs.Functions.{put}
use Rattle.rows.proofs.Sums.{by_test, by_equal, only_true, only_false, only_plus, put_same, put_other, sum_change}
use Rattle.network.specs.Network.{Network, Inner, inflow, outflow, near_end, far_end, residual_over, is_inner, Sound}
use Rattle.network.proofs.Notions.{Preflow, far_end_node, ends_differ, inner_test, source_test, sink_test, residual_over_ext}
use Rattle.network.proofs.Steps.{State, moved, taken, brought, push, Chosen, Eligible, amount}
use Rattle.network.proofs.Gaps.{Valid}
use Rattle.network.proofs.Facts.{Facts, chosen_inner}

-- The flow of the arc at k changed to w changes what is summed over the arcs of one tail, or of one head, by as much.
keyed_change : (m : ℕ) (key flow : ℕ → ℕ) (k w v : ℕ) → k < m
    → sum m (λ a. only (eqb (key a) v) (put flow k w a)) + only (eqb (key k) v) (flow k)
    ≡ sum m (λ a. only (eqb (key a) v) (flow a)) + only (eqb (key k) v) w
keyed_change m key flow k w v l =
    sum_change m (λ a. only (eqb (key a) v) (flow a)) (λ a. only (eqb (key a) v) (put flow k w a)) k l
    (λ a _ e. ap (only (eqb (key a) v)) (put_other flow k w a e))
    ∙ ap (λ x. sum m (λ a. only (eqb (key a) v) (flow a)) + only (eqb (key k) v) x) (put_same flow k w k refl)

-- A push of d moves d of inflow less outflow from its start to its finish, at every node v.
pub push_balance : (N : Network) (flow : ℕ → ℕ) (k : ℕ) (b : Bool) (d : ℕ) → k < N.m → d ≤ residual_over N flow k b → (v : ℕ)
    → inflow N (put flow k (moved b (flow k) d)) v + outflow N flow v + only (eqb (near_end N k b) v) d
    ≡ inflow N flow v + outflow N (put flow k (moved b (flow k) d)) v + only (eqb (far_end N k b) v) d
unfolding inflow outflow
push_balance N flow k true d l fits v =
    omega (
      arith,
      keyed_change N.m N.head flow k (flow k + d) v l,
      keyed_change N.m N.tail flow k (flow k + d) v l,
      only_plus (eqb (N.head k) v) (flow k) d,
      only_plus (eqb (N.tail k) v) (flow k) d,
    )
push_balance N flow k false d l fits v =
    omega (
      arith,
      keyed_change N.m N.head flow k (flow k - d) v l,
      keyed_change N.m N.tail flow k (flow k - d) v l,
      split (N.head k),
      split (N.tail k),
    )
  where
    split : (i : ℕ) → only (eqb i v) (flow k) ≡ only (eqb i v) (flow k - d) + only (eqb i v) d
    split i = ap (only (eqb i v)) (omega arith) ∙ only_plus (eqb i v) (flow k - d) d

-- A push of at most the residual keeps minimum and capacity.
pub moved_range : (N : Network) (flow : ℕ → ℕ) (k : ℕ) (b : Bool) (d : ℕ) → d ≤ residual_over N flow k b → N.low k ≤ flow k → flow k ≤ N.capacity k
    → (N.low k ≤ moved b (flow k) d) × (moved b (flow k) d ≤ N.capacity k)
moved_range N flow k true d fits low high = omega arith
moved_range N flow k false d fits low high = omega arith

-- An arc that goes down by one label is valid both ways.
down_valid : (N : Network) (label : ℕ → ℕ) (k : ℕ) (b c : Bool) → label (near_end N k b) ≡ label (far_end N k b) + 1
    → label (near_end N k c) ≤ label (far_end N k c) + 1
down_valid N label k true true e = omega arith
down_valid N label k true false e = omega arith
down_valid N label k false true e = omega arith
down_valid N label k false false e = omega arith

-- A choice is at most what both its values are.
cond_le : (b : Bool) (x y z : ℕ) → x ≤ z → y ≤ z → cond b x y ≤ z
cond_le true x y z p q = p
cond_le false x y z p q = q

-- A push that the excess, the residual and the far end's room in Delta allow, over an arc that goes down by one label.
pub record Allowed (N : Network) (Δ : ℕ) (S : State) (k : ℕ) (b : Bool) (d : ℕ) : Type 0 where
  pub below : k < N.m
  pub inner : Inner N (near_end N k b)
  pub enough : d ≤ S.excess (near_end N k b)
  pub fits : d ≤ residual_over N S.flow k b
  pub holds : S.excess (far_end N k b) + d ≤ Δ
  pub down : S.label (near_end N k b) ≡ S.label (far_end N k b) + 1

module _ (N : Network) (sound : Sound N) (Δ : ℕ) (S : State) (k : ℕ) (b : Bool) (d : ℕ) (ok : Allowed N Δ S k b d) where
  -- The excesses after a push: at the far end,
  pub far_excess : (v : ℕ) → v ≡ far_end N k b → (push N k b d S).excess v ≡ brought N k b d S
  far_excess v e = put_same (taken N k b d S) (far_end N k b) (brought N k b d S) v e

  -- at the chosen node,
  pub near_excess : (v : ℕ) → v ≡ near_end N k b → (push N k b d S).excess v ≡ S.excess (near_end N k b) - d
  near_excess v e =
      put_other (taken N k b d S) (far_end N k b) (brought N k b d S) v (λ p. ends_differ N sound k b ok.below (sym e ∙ p))
      ∙ put_same S.excess (near_end N k b) (S.excess (near_end N k b) - d) v e

  -- and at the others.
  pub other_excess : (v : ℕ) → (v ≡ near_end N k b → ⊥) → (v ≡ far_end N k b → ⊥) → (push N k b d S).excess v ≡ S.excess v
  other_excess v p q =
      put_other (taken N k b d S) (far_end N k b) (brought N k b d S) v q
      ∙ put_other S.excess (near_end N k b) (S.excess (near_end N k b) - d) v p

  -- What the far end then has, where it is inner,
  pub brought_inner : is_inner N (far_end N k b) ≡ true → brought N k b d S ≡ S.excess (far_end N k b) + d
  brought_inner e = ap (λ x. cond x (S.excess (far_end N k b) + d) (S.excess (far_end N k b))) e

  -- and where it is source or sink.
  pub brought_outer : is_inner N (far_end N k b) ≡ false → brought N k b d S ≡ S.excess (far_end N k b)
  brought_outer e = ap (λ x. cond x (S.excess (far_end N k b) + d) (S.excess (far_end N k b))) e

  -- At an inner node the excess changes by what the push brings and takes.
  push_excess : (v : ℕ) → Inner N v
      → (push N k b d S).excess v + only (eqb (near_end N k b) v) d ≡ S.excess v + only (eqb (far_end N k b) v) d
  push_excess v inner =
      by_equal v (far_end N k b)
      (λ p.
      omega (
        arith,
        far_excess v p,
        brought_inner (ap (is_inner N) (sym p) ∙ inner_test N v inner),
        ap S.excess p,
        only_false (eqb (near_end N k b) v) d (ne_eqb (near_end N k b) v (λ q. ends_differ N sound k b ok.below (q ∙ p))),
        only_true (eqb (far_end N k b) v) d (eq-eqb (far_end N k b) v (sym p)),
      ))
      (λ p.
      by_equal v (near_end N k b)
      (λ q.
      omega (
        arith,
        near_excess v q,
        ok.enough,
        ap S.excess q,
        only_true (eqb (near_end N k b) v) d (eq-eqb (near_end N k b) v (sym q)),
        only_false (eqb (far_end N k b) v) d (ne_eqb (far_end N k b) v (λ r. p (sym r))),
      ))
      (λ q.
      omega (
        arith,
        other_excess v q p,
        only_false (eqb (near_end N k b) v) d (ne_eqb (near_end N k b) v (λ r. q (sym r))),
        only_false (eqb (far_end N k b) v) d (ne_eqb (far_end N k b) v (λ r. p (sym r))),
      )))

  -- Source and sink keep no excess.
  push_outer : (v : ℕ) → is_inner N v ≡ false → S.excess v ≡ 0 → (push N k b d S).excess v ≡ 0
  push_outer v outer before =
      by_equal v (far_end N k b)
      (λ p. far_excess v p ∙ brought_outer (ap (is_inner N) (sym p) ∙ outer) ∙ ap S.excess (sym p) ∙ before)
      (λ p. other_excess v (λ q. true≢false (sym (inner_test N _ ok.inner) ∙ ap (is_inner N) (sym q) ∙ outer)) p ∙ before)

  -- Every excess stays at most Delta.
  push_small : ((v : ℕ) → Node N.n v → S.excess v ≤ Δ) → (v : ℕ) → Node N.n v → (push N k b d S).excess v ≤ Δ
  push_small small v node =
      by_equal v (far_end N k b)
      (λ p.
      omega (
        arith,
        far_excess v p,
        cond_le (is_inner N (far_end N k b)) (S.excess (far_end N k b) + d) (S.excess (far_end N k b)) Δ ok.holds
            (omega (arith, ok.holds)),
      ))
      (λ p.
      by_equal v (near_end N k b)
      (λ q. omega (arith, near_excess v q, small v node, ap S.excess q))
      (λ q. omega (arith, other_excess v q p, small v node)))

  -- The pushed flow is a preflow.
  push_preflow : Preflow N S.flow S.excess → Preflow N (push N k b d S).flow (push N k b d S).excess
  push_preflow pre =
      record {
        low = λ a l. (range a l).0;
        high = λ a l. (range a l).1;
        balance =
            λ v inner.
            omega
            (arith, push_balance N S.flow k b d ok.below ok.fits v, pre.balance v inner, push_excess v inner);
        at_source = push_outer N.s (source_test N N.s refl) pre.at_source;
        at_sink = push_outer N.t (sink_test N N.t refl) pre.at_sink;
      }
    where
      range : (a : ℕ) → a < N.m → (N.low a ≤ (push N k b d S).flow a) × ((push N k b d S).flow a ≤ N.capacity a)
      range a l =
          by_equal a k
          (λ e.
          omega (
            arith,
            put_same S.flow k (moved b (S.flow k) d) a e,
            moved_range N S.flow k b d ok.fits (pre.low k ok.below) (pre.high k ok.below),
            ap N.low e,
            ap N.capacity e,
          ))
          (λ e. omega (arith, put_other S.flow k (moved b (S.flow k) d) a e, pre.low a l, pre.high a l))

  -- Labels stay valid.
  push_valid : Valid N S.flow S.label → Valid N (push N k b d S).flow S.label
  push_valid valid a c l r =
      by_equal a k
      (λ e.
      subst (λ (x : ℕ). S.label (near_end N x c) ≤ S.label (far_end N x c) + 1) (sym e) (down_valid N S.label k b c ok.down))
      (λ e.
      valid a c l
      (omega (
        arith,
        residual_over_ext N (push N k b d S).flow S.flow a c (put_other S.flow k (moved b (S.flow k) d) a e),
      )))

  -- A push keeps the facts.
  push_facts : Facts N Δ S → Facts N Δ (push N k b d S)
  push_facts facts =
      record {
        pre = push_preflow facts.pre;
        valid = push_valid facts.valid;
        ends = facts.ends;
        highest = facts.highest;
        small = push_small facts.small;
      }

module _ (N : Network) (sound : Sound N) (Δ : ℕ) (S : State) (facts : Facts N Δ S) (k : ℕ) (b : Bool) (chosen : Chosen N Δ S (near_end N k b)) (arc : Eligible N S k b) where
  -- The far end of an eligible arc is no node to choose: twice its excess is at most Delta.
  far_small : 2 * S.excess (far_end N k b) ≤ Δ
  far_small =
      by_test (ltb Δ (2 * S.excess (far_end N k b)))
      (λ e.
      absurd
      (omega (
        arith,
        arc.down,
        chosen.lowest (far_end N k b) (far_end_node N sound k b arc.below) (ltb-true Δ (2 * S.excess (far_end N k b)) e),
      )))
      (ltb-false Δ (2 * S.excess (far_end N k b)))

  -- What is pushed is allowed.
  pub amount_allowed : Allowed N Δ S k b (amount N Δ S k b)
  amount_allowed =
      record {
        below = arc.below;
        inner = chosen_inner N sound Δ S facts (near_end N k b) chosen;
        enough = omega arith;
        fits = omega arith;
        holds = omega (arith, far_small);
        down = arc.down;
      }

  -- A nonsaturating push moves at least half of Delta.
  pub nonsaturating_half : amount N Δ S k b < residual_over N S.flow k b → Δ ≤ 2 * amount N Δ S k b
  nonsaturating_half less = omega (arith, far_small, chosen.large)

  -- The step's push keeps the facts.
  pub step_push_facts : Facts N Δ (push N k b (amount N Δ S k b) S)
  step_push_facts = push_facts N sound Δ S k b (amount N Δ S k b) amount_allowed facts
