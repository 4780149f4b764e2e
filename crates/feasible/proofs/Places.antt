-- What stands at each place of the joined network's rows.
use Prim.Native.Nat.{ℕ, ◌-◌, ◌<◌}
use mathlib.Core.Path.{◌≡◌, ap, sym, ◌∙◌}
use mathlib.Core.List.{List}
use native.Mathlib.Omega.{arith}
use lib.ListN.{length}
use Rattle.rows.specs.Row.{at_place}
use Rattle.rows.proofs.Rows.{length_places, at_places}
use Rattle.minimums.specs.BoundedTable.{bounded_of}
use Rattle.joining.specs.Joining.{joined_arcs, joined_tail, joined_head, joined_capacity, JoinedRows}
use Rattle.joining.proofs.Blocks.{block_old}

module _ {n s t : ℕ} {tails heads capacities minimums tails₂ heads₂ capacities₂ : List ℕ}
    (joined : JoinedRows (bounded_of n s t tails heads capacities minimums) tails₂ heads₂ capacities₂) where
  -- How many arcs the table has.
  abbrev m : ℕ
  m = length capacities

  -- What stands at a place of the joined rows.
  pub tail_is : (k : ℕ) → k < joined_arcs n m → at_place tails₂ k ≡ joined_tail n s t tails m k
  tail_is k l = ap (λ r. at_place r k) joined.tails_hold ∙ at_places (joined_tail n s t tails m) (joined_arcs n m) k l

  pub head_is : (k : ℕ) → k < joined_arcs n m → at_place heads₂ k ≡ joined_head n s t heads m k
  head_is k l = ap (λ r. at_place r k) joined.heads_hold ∙ at_places (joined_head n s t heads m) (joined_arcs n m) k l

  pub capacity_is : (k : ℕ) → k < joined_arcs n m → at_place capacities₂ k ≡ joined_capacity n tails heads capacities minimums m k
  capacity_is k l =
      ap (λ r. at_place r k) joined.capacities_hold
      ∙ at_places (joined_capacity n tails heads capacities minimums m) (joined_arcs n m) k l

  -- How many there are.
  pub tails_long : length tails₂ ≡ joined_arcs n m
  tails_long = ap length joined.tails_hold ∙ length_places (joined_tail n s t tails m) (joined_arcs n m)

  pub heads_long : length heads₂ ≡ joined_arcs n m
  heads_long = ap length joined.heads_hold ∙ length_places (joined_head n s t heads m) (joined_arcs n m)

  pub capacities_long : length capacities₂ ≡ joined_arcs n m
  capacities_long =
      ap length joined.capacities_hold ∙ length_places (joined_capacity n tails heads capacities minimums m) (joined_arcs n m)

  -- What the table's arcs leave above their minimums.
  pub spare_is : (k : ℕ) → k < m → at_place capacities₂ k ≡ at_place capacities k - at_place minimums k
  spare_is k l = capacity_is k (omega arith) ∙ sym (block_old n m k _ _ _ _ _ l)
