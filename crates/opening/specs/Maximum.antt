-- Document 02, CR 12, NOTMAX: whether the first m numbers of a row are a maximum flow of a table.
use Rattle.std.specs.Prelude.{ℕ, zero, suc, Bool, true, not, ◌&&◌, ◌||◌, List, length, ◌==◌, nat_le}
use Rattle.rows.specs.Row.{at_place}
use Rattle.network.specs.Network.{Flow, Maximum, inflow, outflow}
use Rattle.table.specs.Table.{Table, network_of}
use Rattle.reach.specs.Side.{marked, side_of}

-- A maximum flow of a table: within its capacities, what enters each node but source and sink leaves it, and none has a larger value.
pub record MaximumFlow (t : Table) (flow : List ℕ) : Type 0 where
  pub valid : Flow (network_of t) (at_place flow)
  pub maximum : Maximum (network_of t) (at_place flow)

-- Whether a test passes at every place below k.
unfoldable pub all_below : (ℕ → Bool) → ℕ → Bool
all_below test zero = true
all_below test (suc k) = all_below test k && test k

-- Whether no flow of the first places, one for each capacity, is above it.
unfoldable pub is_within : (capacities flow : List ℕ) → Bool
unfolding all_below
is_within capacities flow = all_below (λ k. nat_le (at_place flow k) (at_place capacities k)) (length capacities)

-- Whether node i is source or sink, or as much leaves it as enters it.
abbrev pub keeps : (s t i entering leaving : ℕ) → Bool
keeps s t i entering leaving = i == s || (i == t || entering == leaving)

-- Whether that holds of every node, of rows by node of what enters and what leaves.
unfoldable pub is_kept : (s t : ℕ) (entering leaving : ℕ → ℕ) → ℕ → Bool
unfolding all_below
is_kept s t entering leaving n = all_below (λ k. keeps s t (suc k) (entering (suc k)) (leaving (suc k))) n

-- Whether the first m numbers of a row are a flow.
unfoldable pub is_flow : Table → List ℕ → Bool
unfolding is_within is_kept inflow outflow
is_flow t flow =
    is_within t.capacities flow
    && is_kept t.source t.sink (inflow (network_of t) (at_place flow)) (outflow (network_of t) (at_place flow)) t.nodes

-- Whether they are a maximum flow: a flow whose side does not have the sink (proved: maximum_test).
unfoldable pub is_maximum : Table → List ℕ → Bool
unfolding is_flow
is_maximum t flow = is_flow t flow && not (marked (side_of t flow) t.sink)
