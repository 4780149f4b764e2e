-- When sums by pair can be shared among arcs: exactly where no sum is above the capacities of its pair, and in and out of nodes they are what the text says.
use Prim.Native.Nat.{ℕ, zero, suc, ◌+◌, ◌-◌, ◌<◌, ◌≤◌, min}
use mathlib.Core.Path.{◌≡◌, refl, sym, ap, ap₂, ◌∙◌}
use mathlib.Core.Bool.{Bool, true, false, ◌&&◌}
use mathlib.Core.List.{List, [], ◌∷◌}
use native.Mathlib.Omega.{arith}
use lib.Dec.{eqb}
use borrow.Author.Tests.{eq-eqb, ne_eqb, eqb-true}
use Rattle.rows.specs.Sum.{sum, only}
use Rattle.rows.proofs.Sums.{by_test, both_true, only_true, only_false, only_mono, sum_ext, sum_plus, sum_zero, sum_mono, sum_at, sum_exchange}
use Rattle.network.specs.Network.{Flow, Value, Maximum, inflow, outflow}
use Rattle.network.proofs.Cuts.{weak_duality}
use Rattle.run.proofs.Networks.{accepted_sound}
use Rattle.table.specs.Table.{Table, arcs, tail, head, capacity, network_of}
use Rattle.table.specs.Accepted.{Accepted}
use Rattle.reach.specs.Side.{marked}
use Rattle.amounts.specs.declared.Amount.{Amount}
use Rattle.sharing.specs.Full.{sum_where, is_pair, pair_sum, arc_sum, Full}
use Rattle.sharing.specs.Test.{out_sum, into_sum, SumsFit, CutFits}

-- ---- sharing

-- What the arcs of a pair get, in order of place, of a sum for each pair: as much as fits into what the arcs before left of it.
module _ (tail head capacity : ℕ → ℕ) (sums : ℕ → ℕ → ℕ) where
  -- The capacities of the arcs of a pair before place k.
  abbrev before : (a b k : ℕ) → ℕ
  before a b k = sum k (λ j. only (is_pair a b (tail j) (head j)) (capacity j))

  -- What the arc at place k gets.
  share : ℕ → ℕ
  share k = min (capacity k) (sums (tail k) (head k) - before (tail k) (head k) k)

  -- It is within the arc's capacity.
  share_within : (k : ℕ) → share k ≤ capacity k
  unfolding share
  share_within k = omega arith

  -- The arcs of a pair before place k got as much as fits into them.
  shared_before : (a b k : ℕ) → sum k (λ j. only (is_pair a b (tail j) (head j)) (share j)) ≡ min (sums a b) (before a b k)
  unfolding sum share
  shared_before a b zero = omega arith
  shared_before a b (suc k) = by_test (is_pair a b (tail k) (head k))
      (λ is.
      let (p, q) = both_true (eqb (tail k) a) (eqb (head k) b) is in
      let same : share k ≡ min (capacity k) (sums a b - before a b k) = ap₂ (λ (x y : ℕ). min (capacity k) (sums x y - before x y k)) (eqb-true (tail k) a p) (eqb-true (head k) b q) in
      omega (arith, shared_before a b k, only_true (is_pair a b (tail k) (head k)) (share k) is, only_true (is_pair a b (tail k) (head k)) (capacity k) is))
      (λ other. omega (arith, shared_before a b k, only_false (is_pair a b (tail k) (head k)) (share k) other, only_false (is_pair a b (tail k) (head k)) (capacity k) other))

-- ---- in and out of nodes

-- A number above all heads and tails of some amounts.
roof : List Amount → ℕ
roof [] = 1
roof (x ∷ rest) = x.tail + x.head + roof rest

-- It is above 0.
roof_some : (amounts : List Amount) → 1 ≤ roof amounts
unfolding roof
roof_some [] = omega arith
roof_some (x ∷ rest) = omega (arith, roof_some rest)

-- Two keys of a pair, joined either way round.
module _ (and : Bool → Bool → Bool) (yes' : (p : Bool) → and p true ≡ p) (no' : (p : Bool) → and p false ≡ false) where
  -- What is keyed to both, summed over the second, is keyed to the first.
  over_key : (B v x : ℕ) (first : Bool) → v < B → sum B (λ b. only (and first (eqb v b)) x) ≡ only first x
  over_key B v x first h =
      sum_at B (λ b. only (and first (eqb v b)) x) v h (λ k l e. only_false (and first (eqb v k)) x (ap (and first) (ne_eqb v k (λ p. e (sym p))) ∙ no' first))
      ∙ ap (λ (t : Bool). only t x) (ap (and first) (eq-eqb v v refl) ∙ yes' first)

  -- So amounts of pairs are those of the first key,
  amounts_over : (B : ℕ) (first : Amount → Bool) (second : Amount → ℕ) (amounts : List Amount) → ((x : Amount) → second x ≤ x.tail + x.head) → roof amounts ≤ B
      → sum B (λ b. sum_where (λ x. and (first x) (eqb (second x) b)) amounts) ≡ sum_where first amounts
  unfolding sum_where roof
  amounts_over B first second [] low h = sum_zero B (λ b. 0) (λ k l. refl)
  amounts_over B first second (x ∷ rest) low h =
      sum_plus B (λ b. only (and (first x) (eqb (second x) b)) x.flow) (λ b. sum_where (λ y. and (first y) (eqb (second y) b)) rest)
      ∙ ap₂ ◌+◌ (over_key B (second x) x.flow (first x) (omega (arith, low x, roof_some rest))) (amounts_over B first second rest low (omega arith))

  -- and so are what arcs carry.
  arcs_over : (B m : ℕ) (first : ℕ → Bool) (second f : ℕ → ℕ) → ((k : ℕ) → k < m → second k < B)
      → sum B (λ b. sum m (λ k. only (and (first k) (eqb (second k) b)) (f k))) ≡ sum m (λ k. only (first k) (f k))
  arcs_over B m first second f low =
      sum_exchange B m (λ b k. only (and (first k) (eqb (second k) b)) (f k))
      ∙ sum_ext m (λ k. sum B (λ b. only (and (first k) (eqb (second k) b)) (f k))) (λ k. only (first k) (f k)) (λ k l. over_key B (second k) (f k) (first k) (low k l))

-- The first of two tests, and the second.
and_yes : (p : Bool) → p && true ≡ p
and_yes true = refl
and_yes false = refl

-- A test that fails.
and_no : (p : Bool) → p && false ≡ false
and_no true = refl
and_no false = refl

module _ (t : Table) (ok : Accepted t) (amounts : List Amount) (flow : ℕ → ℕ) (shared : (a b : ℕ) → arc_sum t flow a b ≡ pair_sum amounts a b) where
  -- A number above every node and every number of the amounts.
  top : ℕ
  top = suc t.nodes + roof amounts

  -- What goes out of a node is what the text says,
  pub out_says : (i : ℕ) → outflow (network_of t) flow i ≡ out_sum amounts i
  unfolding outflow top
  out_says i =
      sym (arcs_over (λ p q. p && q) and_yes and_no top (arcs t) (λ k. eqb (tail t k) i) (head t) flow (λ k l. omega (arith, ok.rows.ends.head_node k (omega (arith, ok.rows.capacities_long)))))
      ∙ sum_ext top (λ b. arc_sum t flow i b) (λ b. pair_sum amounts i b) (λ b l. shared i b)
      ∙ amounts_over (λ p q. p && q) and_yes and_no top (λ x. eqb x.tail i) (λ x. x.head) amounts (λ x. omega arith) (omega arith)

  -- and so is what goes into it.
  pub into_says : (i : ℕ) → inflow (network_of t) flow i ≡ into_sum amounts i
  unfolding inflow top
  into_says i =
      sym (arcs_over (λ p q. q && p) (λ p. refl) (λ p. refl) top (arcs t) (λ k. eqb (head t k) i) (tail t) flow (λ k l. omega (arith, ok.rows.ends.tail_node k (omega (arith, ok.rows.capacities_long)))))
      ∙ sum_ext top (λ a. arc_sum t flow a i) (λ a. pair_sum amounts a i) (λ a l. shared a i)
      ∙ amounts_over (λ p q. q && p) (λ p. refl) (λ p. refl) top (λ x. eqb x.head i) (λ x. x.tail) amounts (λ x. omega arith) (omega arith)

-- ---- the test

-- A plan that passes is full,
pub balanced_full : (t : Table) → Accepted t → (value : ℕ) (amounts : List Amount) (side : List ℕ) → SumsFit t value amounts → CutFits t value side → Full t value amounts side
balanced_full t ok value amounts side b c =
    record {
      flow = given;
      valid =
          record {
            low = λ k l. omega arith;
            high = λ k l. within k;
            kept = λ i v. into_says t ok amounts given shared i ∙ b.kept i v ∙ sym (out_says t ok amounts given shared i);
          };
      shared = shared;
      net = out_says t ok amounts given shared t.source ∙ b.net ∙ ap (λ (x : ℕ). x + value) (sym (into_says t ok amounts given shared t.source));
      cut = c.cut;
      least = c.least;
    }
  where
    given : ℕ → ℕ
    given = share (tail t) (head t) (capacity t) (pair_sum amounts)

    within : (k : ℕ) → given k ≤ capacity t k
    within k = share_within (tail t) (head t) (capacity t) (pair_sum amounts) k

    shared : (x y : ℕ) → arc_sum t given x y ≡ pair_sum amounts x y
    shared x y = omega (arith, shared_before (tail t) (head t) (capacity t) (pair_sum amounts) x y (arcs t), b.below x y)

-- and a full plan passes.
pub full_balanced : (t : Table) → Accepted t → (value : ℕ) (amounts : List Amount) (side : List ℕ) → Full t value amounts side → SumsFit t value amounts × CutFits t value side
full_balanced t ok value amounts side f = (
  record {
    below =
        λ a b.
        omega (
          arith,
          f.shared a b,
          sum_mono (arcs t) (λ k. only (is_pair a b (tail t k) (head t k)) (f.flow k)) (λ k. only (is_pair a b (tail t k) (head t k)) (capacity t k))
              (λ k l. only_mono (is_pair a b (tail t k) (head t k)) (f.flow k) (capacity t k) (f.valid.high k l)),
        );
    kept = λ i v. sym (into_says t ok amounts f.flow f.shared i) ∙ f.valid.kept i v ∙ out_says t ok amounts f.flow f.shared i;
    net = sym (out_says t ok amounts f.flow f.shared t.source) ∙ f.net ∙ ap (λ (x : ℕ). x + value) (into_says t ok amounts f.flow f.shared t.source);
  },
  record { cut = f.cut; least = f.least },
)

-- ---- duality

-- The value of a full plan is the largest of all flows.
pub full_largest : (t : Table) → Accepted t → (value : ℕ) (amounts : List Amount) (side : List ℕ) → Full t value amounts side
    → (other : ℕ → ℕ) (worth : ℕ) → Flow (network_of t) other → Value (network_of t) other worth → worth ≤ value
full_largest t ok value amounts side f other worth g v =
    omega (
      arith,
      weak_duality (network_of t) (accepted_sound t ok) other g (marked side) f.cut,
      f.least,
    )

-- Its flow is largest.
pub full_maximum : (t : Table) → Accepted t → (value : ℕ) (amounts : List Amount) (side : List ℕ) (f : Full t value amounts side) → Maximum (network_of t) f.flow
full_maximum t ok value amounts side f other g =
    omega (
      arith,
      weak_duality (network_of t) (accepted_sound t ok) other g (marked side) f.cut,
      f.least,
      f.net,
    )
