-- Laws of the joined network's rows: sums that fit, and the rows as they are written.
use Prim.Native.Nat.{ℕ}
use mathlib.Core.Path.{◌≡◌, refl, ap, sym, ◌∙◌}
use mathlib.Core.List.{List}
use native.Mathlib.Omega.{arith}
use lib.ListN.{length}
use Rattle.rows.specs.Row.{by_place}
use Rattle.minimums.specs.BoundedTable.{bounded_of, BoundedRows}
use Rattle.joining.specs.Joining.{joined_arcs, joined_tail, joined_head, joined_capacity, Summable, JoinedRows}
use Rattle.joining.proofs.Sums.{small_minimums}

-- Capacities and minimums of bounded rows are small enough to be summed.
pub capacities_summable : {n : ℕ} {tails heads capacities minimums : List ℕ} → BoundedRows n tails heads capacities minimums
    → Summable n tails heads capacities minimums
capacities_summable rows =
    let long = rows.minimums_long in
    record {
      ends = rows.arcs.ends;
      minimums_long = rows.minimums_long ∙ rows.arcs.capacities_long;
      capacities_long = omega arith;
      at_tails = small_minimums rows _ refl;
      at_heads = small_minimums rows _ rows.arcs.ends.heads_long;
    }

module _ {n : ℕ} {tails heads capacities minimums : List ℕ} (rows : BoundedRows n tails heads capacities minimums) where
  -- The three rows as they are written hold the joined network.
  pub rows_hold : {s t : ℕ} {tails₂ heads₂ capacities₂ : List ℕ} → tails₂ ≡ by_place (joined_tail n s t tails (length tails)) (joined_arcs n (length tails))
      → heads₂ ≡ by_place (joined_head n s t heads (length tails)) (joined_arcs n (length tails))
      → capacities₂ ≡ by_place (joined_capacity n tails heads capacities minimums (length minimums)) (joined_arcs n (length minimums))
      → JoinedRows (bounded_of n s t tails heads capacities minimums) tails₂ heads₂ capacities₂
  rows_hold {s} {t} ea eb ec =
      record {
        tails_hold = ea ∙ ap (λ m. by_place (joined_tail n s t tails m) (joined_arcs n m)) (sym rows.arcs.capacities_long);
        heads_hold = eb ∙ ap (λ m. by_place (joined_head n s t heads m) (joined_arcs n m)) (sym rows.arcs.capacities_long);
        capacities_hold = ec ∙ ap (λ m. by_place (joined_capacity n tails heads capacities minimums m) (joined_arcs n m)) rows.minimums_long;
      }
