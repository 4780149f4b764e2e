-- Document 01, "The run", step 2: the first arc that fits, and the push along it.
use Rattle.std.specs.Prelude.{ℕ, ◌+◌, ◌-◌, min, Bool, cond, ◌&&◌, List, [], ◌∷◌, eqb, ltb, set, Option, Some, None}
use Rattle.rows.specs.Row.{at_place, at_node}
use Rattle.network.specs.Network.{is_inner}
use Rattle.table.specs.Table.{Table, network_of}
use Rattle.arcs.specs.Residual.{way, far, residual}
use Rattle.run.specs.Start.{State}

-- Whether the arc at place k, away from i, has residual above 0 and a far end whose label is exactly one less.
abbrev pub eligible : Table → State → ℕ → ℕ → Bool
eligible t st i k =
    ltb 0 (residual t st.flow i k) && eqb (at_node st.label (far t i k) + 1) (at_node st.label i)

-- The first such arc in a list.
unfoldable pub first_eligible : Table → State → ℕ → List ℕ → Option ℕ
first_eligible t st i [] = None
first_eligible t st i (k ∷ ks) = cond (eligible t st i k) (Some k) (first_eligible t st i ks)

-- What is pushed: min(excess, residual, Delta - excess of the far end).
abbrev pub amount : Table → ℕ → State → ℕ → ℕ → ℕ
amount t delta st i k =
    min (at_node st.excess i) (min (residual t st.flow i k) (delta - at_node st.excess (far t i k)))

-- The push is saturating if it equals the residual.
abbrev pub saturates : Table → ℕ → State → ℕ → ℕ → Bool
saturates t delta st i k = eqb (amount t delta st i k) (residual t st.flow i k)

-- The flow row after d went along the arc at place k, away from i.
abbrev pub along : Table → List ℕ → ℕ → ℕ → ℕ → List ℕ
along t flow i k d = set flow k (cond (way t i k) (at_place flow k + d) (at_place flow k - d))

-- The excess row after d went from i to j: source and sink count as 0 throughout.
abbrev pub moved : Table → List ℕ → ℕ → ℕ → ℕ → List ℕ
moved t excess i j d =
    let left = set excess (i - 1) (at_node excess i - d) in
    cond (is_inner (network_of t) j) (set left (j - 1) (at_node left j + d)) left

-- The state after the push along the arc at place k, away from i.
unfoldable pub push : Table → ℕ → State → ℕ → ℕ → State
push t delta st i k =
    let d = amount t delta st i k in
    record {
      flow = along t st.flow i k d;
      excess = moved t st.excess i (far t i k) d;
      label = st.label;
    }
