-- Laws of the code that sums what a row holds of arcs with one end.
use Prim.Native.Nat.{ℕ, ◌≤◌}
use mathlib.Core.Path.{◌≡◌}
use mathlib.Core.List.{List}
use native.Mathlib.Omega.{arith}
use lib.Dec.{eqb}
use lib.ListN.{length}
use Rattle.rows.specs.Row.{at_place}
use Rattle.rows.specs.Sum.{only}
use Rattle.rows.proofs.Sums.{only_le, sum_bound}
use Rattle.start.specs.Sums.{sum_at}
use Rattle.joining.specs.Joining.{Small}
use Rattle.minimums.specs.BoundedTable.{BoundedRows}

-- What small numbers sum up to fits 32 bits.
pub small_sum : {ends row : List ℕ} → Small ends row → (i : ℕ) → sum_at ends row i (length ends) ≤ 4096000000
small_sum {ends} {row} small i =
    omega (
      arith,
      small.few,
      sum_bound (length ends) 1000000 (λ k. only (eqb (at_place ends k) i) (at_place row k))
          (λ k l. omega (arith, only_le (eqb (at_place ends k) i) (at_place row k), small.each k l)),
    )

-- The minimums are small enough to be summed at their ends: `ends` is the row of tails or of heads.
pub small_minimums : {n : ℕ} {tails heads capacities minimums : List ℕ} → BoundedRows n tails heads capacities minimums → (ends : List ℕ) → length ends ≡ length tails → Small ends minimums
small_minimums rows ends long =
    let c = rows.arcs.capacities_long in
    record {
      few = omega (arith, rows.arcs.ends.few_arcs);
      long = omega (arith, rows.minimums_long);
      each = λ k l. omega (arith, rows.within k (omega arith), rows.arcs.small k (omega arith));
    }
