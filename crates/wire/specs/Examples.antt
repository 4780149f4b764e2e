-- Worked examples of the byte rows, by computation.
use Rattle.std.specs.Prelude.{◌≡◌, refl, [], ◌∷◌}
use Rattle.rows.specs.Row.{by_place}
use Rattle.little.specs.Little.{number}
use Rattle.table.specs.Table.{table_of}
use Rattle.wire.specs.Rows.{arc_table, returned_of}

-- Two arcs, 1>2 of 3 and 2>3 of 258, in 24 bytes.
two_arcs : arc_table 3 1 3 (1 ∷ 0 ∷ 0 ∷ 0 ∷ 2 ∷ 0 ∷ 0 ∷ 0 ∷ 3 ∷ 0 ∷ 0 ∷ 0 ∷ 2 ∷ 0 ∷ 0 ∷ 0 ∷ 3 ∷ 0 ∷ 0 ∷ 0 ∷ 2 ∷ 1 ∷ 0 ∷ 0 ∷ []) ≡ table_of 3 1 3 (1 ∷ 2 ∷ []) (2 ∷ 3 ∷ []) (3 ∷ 258 ∷ [])
unfolding by_place number
two_arcs = refl

-- One byte more: a third tail, without head and capacity.
cut_off : arc_table 3 1 3 (1 ∷ 0 ∷ 0 ∷ 0 ∷ 2 ∷ 0 ∷ 0 ∷ 0 ∷ 3 ∷ 0 ∷ 0 ∷ 0 ∷ 2 ∷ []) ≡ table_of 3 1 3 (1 ∷ 2 ∷ []) (2 ∷ []) (3 ∷ [])
unfolding by_place number
cut_off = refl

-- CAPACITY (8) at place 1.
capacity_at_one : returned_of 8 1 ≡ 34359738369
capacity_at_one = refl
