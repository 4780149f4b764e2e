-- What the parts of the run find in rows and leave in them: for the contracts of functions over bare rows.
use Rattle.std.specs.Prelude.{ℕ, ◌<◌, ◌≡◌, Bool, true, List, [], length, Option, Some, None}
use Rattle.rows.specs.Row.{Node, at_place}
use Rattle.table.specs.Table.{Table, table_of}
use Rattle.arcs.specs.Residual.{far, touches}
use Rattle.run.specs.Start.{State}
use Rattle.run.specs.Push.{eligible, saturates, push}
use Rattle.looking.specs.Looked.{NoneBefore}
use Rattle.steps.specs.declared.Spot.{Spot}

-- Whether the arc at place k touches node i, by these two rows alone.
abbrev pub touching : (tails heads : List ℕ) → ℕ → ℕ → Bool
touching tails heads i k = touches (table_of 0 0 0 tails heads []) i k

-- Every number of a list is a place below m, of an arc that touches node i.
abbrev pub AllTouch : ℕ → (tails heads : List ℕ) → ℕ → List ℕ → Type 0
AllTouch m tails heads i list = (j : ℕ) → j < length list → (at_place list j < m) × (touching tails heads i (at_place list j) ≡ true)

-- Every number of a list is a place below m, and beside it, in a row as long, stands one of n nodes.
pub record Beside (m n : ℕ) (places ends : List ℕ) : Type 0 where
  pub long : length ends ≡ length places
  pub place_below : (j : ℕ) → j < length places → at_place places j < m
  pub end_node : (j : ℕ) → j < length places → Node n (at_place ends j)

-- The node that stands beside each arc of node i's list is the arc's far end.
abbrev pub FarEnds : Table → ℕ → (places ends : List ℕ) → Type 0
FarEnds t i places ends = (j : ℕ) → j < length places → at_place ends j ≡ far t i (at_place places j)

-- Where the search of node i's list stopped: at a position where the first eligible place stands, with its far end; or at the end, with none eligible.
abbrev pub SpotIs : Table → State → ℕ → List ℕ → Option Spot → Type 0
SpotIs t st i places (Some spot) =
    (spot.position < length places) × (spot.place ≡ at_place places spot.position) × NoneBefore t st i places spot.position
    × (eligible t st i spot.place ≡ true) × (spot.far ≡ far t i spot.place)
SpotIs t st i places None = NoneBefore t st i places (length places)

-- What a push leaves: the flow row, the excess row, and whether it was saturating.
pub record Pushed (t : Table) (delta : ℕ) (st : State) (i k : ℕ) (flow excess : List ℕ) (full : Bool) : Type 0 where
  pub flow_is : flow ≡ (push t delta st i k).flow
  pub excess_is : excess ≡ (push t delta st i k).excess
  pub full_is : full ≡ saturates t delta st i k
