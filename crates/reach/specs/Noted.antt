-- The marks with the nodes noted, as the code holds them.
use Rattle.std.specs.Prelude.{List, ℕ}
use Rattle.reach.specs.declared.Noted.{Noted}
use Rattle.reach.specs.Visits.{Front, front}

-- The marks, and the nodes noted.
abbrev pub front_of : List ℕ → Noted → Front
front_of marks noted = front marks noted.row.now noted.count
