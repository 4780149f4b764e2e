-- Worked examples of the smaller table, by computation.
use Rattle.std.specs.Prelude.{◌≡◌, refl, [], ◌∷◌}
use Rattle.table.specs.Table.{Table, table_of}
use Rattle.reach.specs.Side.{side_from}
use Rattle.run.specs.Phase.{run}
use Rattle.listing.specs.Passing.{passing}
use Rattle.shrinking.specs.Smaller.{node_origins, arc_origins, smaller, back_flow, back_side}

-- Document 01's listing, with two nodes that the source does not reach, and arcs of capacity 0.
grown : Table
grown = table_of 6 1 4 (1 ∷ 1 ∷ 2 ∷ 3 ∷ 5 ∷ 1 ∷ 2 ∷ 6 ∷ []) (2 ∷ 3 ∷ 3 ∷ 4 ∷ 3 ∷ 6 ∷ 5 ∷ 2 ∷ []) (4 ∷ 2 ∷ 4 ∷ 1 ∷ 3 ∷ 0 ∷ 0 ∷ 5 ∷ [])

-- The smaller table is the listing's,
grown_smaller : smaller grown ≡ table_of 4 1 4 (1 ∷ 1 ∷ 2 ∷ 3 ∷ []) (2 ∷ 3 ∷ 3 ∷ 4 ∷ []) (4 ∷ 2 ∷ 4 ∷ 1 ∷ [])
unfolding grown side_from passing
grown_smaller = refl

-- from these nodes
grown_nodes : node_origins grown ≡ 1 ∷ 2 ∷ 3 ∷ 4 ∷ []
unfolding grown side_from passing
grown_nodes = refl

-- and these arcs,
grown_arcs : arc_origins grown ≡ 0 ∷ 1 ∷ 2 ∷ 3 ∷ []
unfolding grown side_from passing
grown_arcs = refl

-- and its flow is put back with 0 elsewhere.
grown_back : back_flow grown ≡ 1 ∷ 0 ∷ 1 ∷ 1 ∷ 0 ∷ 0 ∷ 0 ∷ 0 ∷ []
unfolding grown side_from passing run
grown_back = refl

-- The side is document 01's.
grown_side : back_side grown ≡ 1 ∷ 1 ∷ 1 ∷ 0 ∷ 0 ∷ 0 ∷ []
unfolding grown side_from passing run
grown_side = refl

-- 1>2 takes 2, 2>4 takes 1, and 2>3 leads nowhere.
nowhere : Table
nowhere = table_of 4 1 4 (1 ∷ 2 ∷ 2 ∷ []) (2 ∷ 4 ∷ 3 ∷ []) (2 ∷ 1 ∷ 5 ∷ [])

-- A node that only the source reaches is left out,
nowhere_nodes : node_origins nowhere ≡ 1 ∷ 2 ∷ 4 ∷ []
unfolding nowhere side_from passing
nowhere_nodes = refl

-- and is on the side all the same: it is marked afresh.
nowhere_side : back_side nowhere ≡ 1 ∷ 1 ∷ 1 ∷ 0 ∷ []
unfolding nowhere side_from passing run
nowhere_side = refl

-- Where the source does not reach the sink no node is live: source and sink alone are left, in the old order, and no arc.
apart_smaller : smaller (table_of 3 3 1 (1 ∷ 3 ∷ []) (3 ∷ 2 ∷ []) (5 ∷ 5 ∷ [])) ≡ table_of 2 2 1 [] [] []
unfolding side_from passing
apart_smaller = refl
