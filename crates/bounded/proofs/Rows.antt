-- Rows that solving lends on: its own, and those above the minimums.
use Prim.Native.Nat.{ℕ, ◌+◌, ◌≤◌}
use mathlib.Core.Path.{◌≡◌, ap, ◌∙◌}
use mathlib.Core.List.{List}
use native.Mathlib.Omega.{arith}
use lib.ListN.{length, replicate, take, length-replicate}
use lib.Seq.{get_or-take, length-take-le}
use Rattle.rows.specs.Row.{at_place}
use Rattle.rows.proofs.Rows.{zeros_taken}
use Rattle.minimums.specs.BoundedTable.{bounded_of}
use Rattle.joining.specs.Joining.{joined_arcs, JoinedRows}
use Rattle.feasible.specs.Flows.{BoundedFlow}
use Rattle.feasible.proofs.Places.{capacities_long, spare_is}
use Rattle.bounded.specs.Solving.{OwnRows, Above}

-- The first places of a row of zeros are as many as were taken.
zeros_long : (k n : ℕ) → k ≤ n → length (take k (replicate {A = ℕ} n 0)) ≡ k
zeros_long k n h = ap length (zeros_taken k n h) ∙ length-replicate k 0

-- Parts of rows of zeros are rows of the call's own.
pub own_rows : (size : ℕ) → size ≤ 5122
    → OwnRows size (take size (replicate 5122 0)) (take size (replicate 5122 0)) (take size (replicate 5122 0)) (take size (replicate 5122 0)) (take size (replicate 5122 0)) (replicate 12301 0)
own_rows size h =
    let long = zeros_long size 5122 h in
    record {
      from_long = long;
      to_long = long;
      limits_long = long;
      none_empty = zeros_taken size 5122 h;
      more_empty = zeros_taken size 5122 h;
      lists_long = omega (arith, length-replicate {A = ℕ} 12301 0);
    }

module _ {n s t : ℕ} {tails heads capacities minimums tails₂ heads₂ capacities₂ : List ℕ}
    (joined : JoinedRows (bounded_of n s t tails heads capacities minimums) tails₂ heads₂ capacities₂) where
  -- The first of the joined capacities are enough rows,
  pub room_for : length capacities ≤ length capacities₂
  room_for = omega (arith, capacities_long joined)

  -- and hold what the table's capacities leave above the minimums.
  pub above_is : {more : List ℕ} → length more ≡ joined_arcs n (length capacities)
      → BoundedFlow (bounded_of n s t tails heads capacities minimums) (λ k. at_place more k + at_place minimums k)
      → Above (bounded_of n s t tails heads capacities minimums) (take (length capacities) capacities₂) more
  above_is long keeps =
      record {
        spare_long = length-take-le (length capacities) capacities₂ room_for;
        spare_is = λ k l. get_or-take (length capacities) capacities₂ k 0 l ∙ spare_is joined k l;
        more_long = omega arith;
        keeps = keeps;
      }
