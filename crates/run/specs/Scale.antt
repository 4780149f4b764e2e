-- Document 01, "The run": the scale D and the number of phases K.
use Rattle.std.specs.Prelude.{ℕ, zero, suc, ◌^◌, max, true, false, List, [], ◌∷◌, leb}
use Rattle.table.specs.Table.{Table}
use Rattle.run.specs.Start.{start}

-- The largest number of a row.
unfoldable pub largest : List ℕ → ℕ
largest [] = 0
largest (x ∷ xs) = max x (largest xs)

-- How often 1 must be doubled, at least j times and at most j + left, until it is not below x.
unfoldable pub doublings : ℕ → ℕ → ℕ → ℕ
doublings x zero j = j
doublings x (suc left) j = elim (leb x (2 ^ j)) [ true ↦ j | false ↦ doublings x left (suc j) ]

-- K for a largest excess: 0 if it is 0, else 1 + log2 of the least power of two not below it, which is at most 2^32.
unfoldable pub phases_for : ℕ → ℕ
unfolding doublings
phases_for zero = 0
phases_for (suc x) = suc (doublings (suc x) 32 0)

-- The scale of j phases: 2^(j-1), or 0 for none.
unfoldable pub scale_of : ℕ → ℕ
scale_of zero = 0
scale_of (suc j) = 2 ^ j

-- K of a table, from the largest excess after the start.
unfoldable pub phase_count : Table → ℕ
unfolding phases_for largest start
phase_count t = phases_for (largest (start t).excess)

-- D of a table.
abbrev pub scale : Table → ℕ
scale t = scale_of (phase_count t)
