-- A worked example: a table that no flow keeps.
use Rattle.std.specs.Prelude.{[], ◌∷◌}
use Rattle.std.proofs.Common.{arith}
use Rattle.rows.specs.Sum.{sum}
use Rattle.network.specs.Network.{inflow, outflow}
use Rattle.minimums.specs.BoundedTable.{BoundedTable, bounded_of}
use Rattle.feasible.specs.Flows.{NoFlow}

-- 1>2 of 2 to 3 and 2>3 of 1: what has to enter node 2 can't leave it.
choked : BoundedTable
choked = bounded_of 3 1 3 (1 ∷ 2 ∷ []) (2 ∷ 3 ∷ []) (3 ∷ 1 ∷ []) (2 ∷ 0 ∷ [])

-- No flow keeps both arcs between their numbers.
choked_none : NoFlow choked
unfolding choked inflow outflow sum
choked_none flow keeps =
    omega (
      arith,
      keeps.low 0 (omega arith),
      keeps.high 1 (omega arith),
      keeps.kept 2 (record { node = (omega arith, omega arith); not_source = λ e. omega arith; not_sink = λ e. omega arith }),
    )
