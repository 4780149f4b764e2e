-- The distances with the nodes noted, as the code holds them.
use Rattle.std.specs.Prelude.{ℕ, List}
use Rattle.reach.specs.declared.Noted.{Noted}
use Rattle.measuring.specs.Visits.{Front, front}

-- The distances, and the nodes noted.
abbrev pub front_of : List ℕ → Noted → Front
front_of dist noted = front dist noted.row.now noted.count
