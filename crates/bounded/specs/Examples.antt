-- Worked examples: values below 0 and sides by computation.
use Rattle.std.specs.Prelude.{◌≡◌, refl, [], ◌∷◌, negsuc}
use Rattle.rows.specs.Row.{at_place}
use Rattle.rows.specs.Sum.{sum}
use Rattle.network.specs.Network.{inflow, outflow, leaving, entering}
use Rattle.reach.specs.Side.{marked, side_from}
use Rattle.bounded.specs.Bounded.{value_of, cut_capacity, bounded_side}
use Rattle.minimums.specs.BoundedTable.{BoundedTable, bounded_of}

-- 1>2 of 4, 1>3 of 2, 2>3 of 1 to 4, 3>4 of 1 and 4>1 of 2 to 3, source 1 and sink 4: two come back at least, and one goes out.
loop_back : BoundedTable
loop_back = bounded_of 4 1 4 (1 ∷ 1 ∷ 2 ∷ 3 ∷ 4 ∷ []) (2 ∷ 3 ∷ 3 ∷ 4 ∷ 1 ∷ []) (4 ∷ 2 ∷ 4 ∷ 1 ∷ 3 ∷ []) (0 ∷ 0 ∷ 1 ∷ 0 ∷ 2 ∷ [])

-- The value is -1,
loop_back_value : value_of loop_back (at_place (1 ∷ 0 ∷ 1 ∷ 1 ∷ 2 ∷ [])) ≡ negsuc 0
unfolding loop_back outflow inflow sum
loop_back_value = refl

-- the side is 1, 2 and 3,
loop_back_side : bounded_side loop_back (1 ∷ 0 ∷ 1 ∷ 1 ∷ 2 ∷ []) ≡ 1 ∷ 1 ∷ 1 ∷ 0 ∷ []
unfolding loop_back side_from
loop_back_side = refl

-- and its cut's capacity is the value: 1 leaves the side, and the minimum that enters it is 2.
loop_back_cut : cut_capacity loop_back (marked (1 ∷ 1 ∷ 1 ∷ 0 ∷ [])) ≡ negsuc 0
unfolding loop_back leaving entering sum
loop_back_cut = refl

-- 3>1 of 2 to 3 alone, source 1 and sink 3: the minimum forces flow from the sink to the source.
forced : BoundedTable
forced = bounded_of 3 1 3 (3 ∷ []) (1 ∷ []) (3 ∷ []) (2 ∷ [])

-- The value is -2,
forced_value : value_of forced (at_place (2 ∷ [])) ≡ negsuc 1
unfolding forced outflow inflow sum
forced_value = refl

-- the side is 1 alone,
forced_side : bounded_side forced (2 ∷ []) ≡ 1 ∷ 0 ∷ 0 ∷ []
unfolding forced side_from
forced_side = refl

-- and its cut's capacity is the value.
forced_cut : cut_capacity forced (marked (1 ∷ 0 ∷ 0 ∷ [])) ≡ negsuc 1
unfolding forced leaving entering sum
forced_cut = refl
