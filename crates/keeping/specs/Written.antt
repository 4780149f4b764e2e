-- What is written of the smaller table: for the contract of the function that writes it.
use Rattle.std.specs.Prelude.{ℕ, suc, ◌≡◌, List, map, length}
use Rattle.rows.specs.Row.{at_place}
use Rattle.listing.specs.Passing.{passing, filled_with}
use Rattle.shrinking.specs.Smaller.{node_by, arc_by, up_to}
use Rattle.keeping.specs.declared.Sizes.{Sizes}
use Rattle.keeping.specs.SmallRows.{SmallRows}

-- The sizes, and the rows with the smaller table that two rows of marks give in their first places.
pub record Written (ahead behind : List ℕ) (s t : ℕ) (tails heads capacities : List ℕ) (old : SmallRows) (sizes : Sizes) (left : SmallRows) : Type 0 where
  pub nodes_are : sizes.nodes ≡ length (passing (node_by ahead behind s t) (suc (length ahead)))
  pub arcs_are : sizes.arcs ≡ length (passing (arc_by ahead behind tails heads capacities) (length tails))
  pub source_is : sizes.source ≡ up_to (node_by ahead behind s t) s
  pub sink_is : sizes.sink ≡ up_to (node_by ahead behind s t) t
  pub tails_is : left.tails ≡ filled_with (map (λ (k : ℕ). up_to (node_by ahead behind s t) (at_place tails k)) (passing (arc_by ahead behind tails heads capacities) (length tails))) old.tails
  pub heads_is : left.heads ≡ filled_with (map (λ (k : ℕ). up_to (node_by ahead behind s t) (at_place heads k)) (passing (arc_by ahead behind tails heads capacities) (length tails))) old.heads
  pub capacities_is : left.capacities ≡ filled_with (map (λ (k : ℕ). at_place capacities k) (passing (arc_by ahead behind tails heads capacities) (length tails))) old.capacities
  pub nodes_from : left.nodes_from ≡ filled_with (passing (node_by ahead behind s t) (suc (length ahead))) old.nodes_from
  pub arcs_from : left.arcs_from ≡ filled_with (passing (arc_by ahead behind tails heads capacities) (length tails)) old.arcs_from
