-- What a step brings to the sink: for the contracts of the run that stops.
use Rattle.std.specs.Prelude.{ℕ, eqb, Option, Some, None}
use Rattle.rows.specs.Sum.{only}
use Rattle.table.specs.Table.{Table}
use Rattle.arcs.specs.Residual.{far, list}
use Rattle.run.specs.Start.{State}
use Rattle.run.specs.Push.{amount, first_eligible}

-- What a push along the arc at place k, away from i, brings to the sink.
abbrev pub gain_along : Table → (delta : ℕ) → State → (i k : ℕ) → ℕ
gain_along t delta st i k = only (eqb (far t i k) t.sink) (amount t delta st i k)

-- What a step at node i brings to it: a relabel nothing.
abbrev pub gain_at : Table → (delta : ℕ) → State → (i : ℕ) → Option ℕ → ℕ
gain_at t delta st i (Some k) = gain_along t delta st i k
gain_at t delta st i None = 0

-- What the step at node i brings to the sink.
unfoldable pub gain : Table → (delta : ℕ) → State → (i : ℕ) → ℕ
unfolding first_eligible list
gain t delta st i = gain_at t delta st i (first_eligible t st i (list t i))
