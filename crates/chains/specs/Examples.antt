-- Worked examples, by computation.
use Rattle.std.specs.Prelude.{◌≡◌, refl, List, [], ◌∷◌, ℕ, replicate}
use Rattle.rows.specs.Sum.{sum}
use Rattle.network.specs.Network.{inflow, outflow}
use Rattle.table.specs.Checks.{outside, differ, bad_ends, arc_fault, or_else, in_order}
use Rattle.table.specs.declared.Name.TheVariants.{Room, Bounded}
use Rattle.reach.specs.Side.{side_from}
use Rattle.run.specs.Scale.{phase_count, scale_of}
use Rattle.run.specs.Phase.{run, value}
use Rattle.minimums.specs.BoundedTable.{BoundedTable, bounded_of}
use Rattle.minimums.specs.Checks.{differ_four, bounded_sizes, bounded_fault, first_bounded_fault, all_zero}
use Rattle.solver.specs.Solving.{left, has_room, refusal, answer_with, solved}
use Rattle.pieces.specs.Chains.{numbers, pieces}
use Rattle.chains.specs.Listing.{shown, listing}

-- P6 of document 01: 1>2 takes 4, 1>3 takes 2, 2>3 takes 4 and 3>4 takes 1; with these minimums.
p6 : List ℕ → BoundedTable
p6 minimums = bounded_of 4 1 4 (1 ∷ 1 ∷ 2 ∷ 3 ∷ []) (2 ∷ 3 ∷ 3 ∷ 4 ∷ []) (4 ∷ 2 ∷ 4 ∷ 1 ∷ []) minimums

-- Its one unit goes along places 0, 2 and 3: a chain of amount 1. The list's last place stays.
p6_lists :
    listing (p6 (0 ∷ 0 ∷ 0 ∷ 0 ∷ [])) 5 (7 ∷ 7 ∷ 7 ∷ 7 ∷ []) (7 ∷ 7 ∷ 7 ∷ 7 ∷ []) (replicate 25 7) (replicate 7 7)
    ≡ shown (left (answer_with 5 1 4 3 (record { saturating = 3; nonsaturating = 6; relabels = 6 })) (1 ∷ 0 ∷ 1 ∷ 1 ∷ []) (1 ∷ 1 ∷ 1 ∷ 0 ∷ []) (replicate 25 0)) 6 (1 ∷ 1 ∷ 3 ∷ 0 ∷ 2 ∷ 3 ∷ 7 ∷ [])
unfolding listing p6 has_room bounded_sizes differ_four differ outside bad_ends in_order or_else first_bounded_fault bounded_fault arc_fault all_zero solved answer_with run value inflow outflow sum phase_count scale_of side_from pieces numbers
p6_lists = refl

-- A row of five numbers is one short: ROOM, and nothing is written.
p6_short :
    listing (p6 (0 ∷ 0 ∷ 0 ∷ 0 ∷ [])) 5 (7 ∷ 7 ∷ 7 ∷ 7 ∷ []) (7 ∷ 7 ∷ 7 ∷ 7 ∷ []) (replicate 25 7) (replicate 5 7)
    ≡ shown (left (refusal Room 0) (7 ∷ 7 ∷ 7 ∷ 7 ∷ []) (7 ∷ 7 ∷ 7 ∷ 7 ∷ []) (replicate 25 7)) 0 (replicate 5 7)
unfolding listing p6 has_room bounded_sizes differ_four differ outside bad_ends in_order or_else first_bounded_fault bounded_fault arc_fault all_zero solved run value inflow outflow sum phase_count scale_of pieces numbers
p6_short = refl

-- A minimum above 0 is BOUNDED, before the list's ROOM.
p6_bounded :
    listing (p6 (0 ∷ 0 ∷ 0 ∷ 1 ∷ [])) 5 (7 ∷ 7 ∷ 7 ∷ 7 ∷ []) (7 ∷ 7 ∷ 7 ∷ 7 ∷ []) (replicate 25 7) []
    ≡ shown (left (refusal Bounded 0) (7 ∷ 7 ∷ 7 ∷ 7 ∷ []) (7 ∷ 7 ∷ 7 ∷ 7 ∷ []) (replicate 25 7)) 0 []
unfolding listing p6 has_room bounded_sizes differ_four differ outside bad_ends in_order or_else first_bounded_fault bounded_fault arc_fault all_zero
p6_bounded = refl
