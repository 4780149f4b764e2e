-- Laws of the largest number, of doubling, and of sums over places.
use Prim.Native.Nat.{ℕ, zero, suc, ◌+◌, ◌-◌, ◌^◌, ◌≤◌, ◌<◌}
use native.Mathlib.Nat.{not-suc-le-zero, pow-succ'}
use native.Mathlib.Numerals.{add-one}
use native.Mathlib.Omega.{arith}
use mathlib.Core.Path.{◌≡◌, refl, ap}
use mathlib.Core.List.{List}
use lib.ListN.{length}
use lib.Pow.{pow_mono}
use borrow.Author.Tests.{le-leb, lt-leb, eq-eqb, ne_eqb}
use Rattle.std.specs.Int.Count.{count_leading_zeros}
use Rattle.std.proofs.lemmas.Nat.{leading_length}
use Rattle.rows.specs.Row.{at_place}
use Rattle.rows.proofs.Sums.{by_equal}
use Rattle.rows.specs.Sum.{sum}
use Rattle.network.specs.Network.{inflow, outflow}
use Rattle.table.specs.Table.{table_of}
use Rattle.run.specs.Scale.{doublings, phases_for, scale_of}
use Rattle.run.specs.Phase.{value}
use Rattle.start.specs.Sums.{sum_at}

-- ---- doubling

-- The doublings from j on are m, where x is above each power before 2^m and not above that.
doublings_are : (x m left j : ℕ) → j ≤ m → m ≤ j + left → x ≤ 2 ^ m → ((k : ℕ) → k < m → 2 ^ k < x) → doublings x left j ≡ m
unfolding doublings
doublings_are x m zero j from to high low = omega arith
doublings_are x m (suc left) j from to high low =
    by_equal j m
    (λ e. rw (le-leb x (2 ^ j) (rw e high), doublings) e)
    (λ other.
    let before : j < m = omega arith in
    rw (lt-leb x (2 ^ j) (low j before), doublings) (doublings_are x m left (suc j) (omega arith) (omega arith) high low))

-- K of an excess above 0, by the zeros in front of the number before it.
pub phases_some : (x : ℕ) → (x ≡ 0 → ⊥) → x < 2 ^ 32 → (33 - count_leading_zeros 32 (x - 1) ≡ phases_for x) × (33 - count_leading_zeros 32 (x - 1) ≤ 33)
unfolding phases_for
phases_some zero some small = absurd (some refl)
phases_some (suc a) some small =
    let (m, zeros, high, low) = leading_length 32 (suc a - 1) (omega arith) in
    let below : (k : ℕ) → k < m → 2 ^ k < suc a = λ k l. omega (arith, low, pow_mono l, pow-succ') in
    let all : doublings (suc a) 32 0 ≡ m = doublings_are (suc a) m 32 0 (omega arith) (omega (arith, zeros)) (omega (arith, high)) below in
    (omega (arith, zeros, all), omega arith)

-- K of no excess.
pub phases_none : (x : ℕ) → x ≡ 0 → phases_for x ≡ 0
unfolding phases_for
phases_none x h = rw h

-- D of no phase.
pub scale_none : (k : ℕ) → k ≡ 0 → scale_of k ≡ 0
unfolding scale_of
scale_none k h = rw h

-- D of one phase or more.
pub scale_some : (k : ℕ) → 1 ≤ k → scale_of k ≡ 2 ^ (k - 1)
unfolding scale_of
scale_some zero h = absurd (not-suc-le-zero h)
scale_some (suc k) h = ap (λ (j : ℕ). 2 ^ j) (omega arith)

-- ---- sums over places

-- One more place whose end is i,
pub sum_on : (ends flow : List ℕ) (i k : ℕ) → at_place ends k ≡ i → sum_at ends flow i (k + 1) ≡ sum_at ends flow i k + at_place flow k
unfolding sum
sum_on ends flow i k e = rw add-one (rw (eq-eqb (at_place ends k) i e))

-- and one whose end is another.
pub sum_past : (ends flow : List ℕ) (i k : ℕ) → (at_place ends k ≡ i → ⊥) → sum_at ends flow i (k + 1) ≡ sum_at ends flow i k
unfolding sum
sum_past ends flow i k ne = rw add-one (rw (ne_eqb (at_place ends k) i ne) (omega arith))

-- The value of a flow row over these rows.
pub value_is : (n s t : ℕ) (tails heads capacities flow : List ℕ) → length capacities ≡ length tails → length heads ≡ length tails
    → sum_at tails flow s (length tails) - sum_at heads flow s (length heads) ≡ value (table_of n s t tails heads capacities) flow
unfolding value inflow outflow
value_is n s t tails heads capacities flow e f = rw (e, f)
