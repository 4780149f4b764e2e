-- Worked examples of the first call, by computation.
use Rattle.std.specs.Prelude.{ℕ, ◌≡◌, refl, List, [], ◌∷◌, replicate}
use Rattle.rows.specs.Sum.{sum}
use Rattle.network.specs.Network.{inflow, outflow}
use Rattle.table.specs.Checks.{outside, differ, bad_ends, arc_fault, or_else, in_order}
use Rattle.table.specs.declared.Name.{Name}
use Rattle.table.specs.declared.Name.TheVariants.{Room, Bounded}
use Rattle.minimums.specs.BoundedTable.{BoundedTable, bounded_of}
use Rattle.minimums.specs.Checks.{differ_four, bounded_sizes, bounded_fault, first_bounded_fault, all_zero}
use Rattle.reach.specs.Side.{side_from}
use Rattle.run.specs.Scale.{phase_count, scale_of}
use Rattle.run.specs.Phase.{run, value}
use Rattle.solver.specs.Solving.{has_room, refusal, answer_with, solved}
use Rattle.listing.specs.Passing.{passing}
use Rattle.openings.specs.Finding.{left_openings, openings_with, has_lists, found, finding_as, finding}

-- Document 01's listing, with these minimums.
listing : (minimums : List ℕ) → BoundedTable
listing minimums = bounded_of 4 1 4 (1 ∷ 1 ∷ 2 ∷ 3 ∷ []) (2 ∷ 3 ∷ 3 ∷ 4 ∷ []) (4 ∷ 2 ∷ 4 ∷ 1 ∷ []) minimums

-- Its source side is 1 2 3, only 4 reaches the sink, and the arc at place 3 would help.
listing_openings :
    finding (listing (0 ∷ 0 ∷ 0 ∷ 0 ∷ [])) 5 (replicate 4 7) (replicate 4 7) (replicate 25 7) (7 ∷ 7 ∷ 7 ∷ 7 ∷ []) (7 ∷ 7 ∷ []) (7 ∷ [])
    ≡ left_openings (openings_with (answer_with 5 1 4 3 (record { saturating = 3; nonsaturating = 6; relabels = 6 })) 3 1 1)
    (1 ∷ 0 ∷ 1 ∷ 1 ∷ []) (1 ∷ 1 ∷ 1 ∷ 0 ∷ []) (replicate 25 0) (1 ∷ 2 ∷ 3 ∷ 7 ∷ []) (4 ∷ 7 ∷ []) (3 ∷ [])
unfolding listing finding finding_as found solved answer_with has_room has_lists bounded_sizes differ_four first_bounded_fault bounded_fault arc_fault outside differ bad_ends or_else in_order all_zero run value inflow outflow sum phase_count scale_of side_from passing
listing_openings = refl

-- A list of two numbers can't hold the source side, and a minimum comes before that; nothing is written.
refuses : (minimums : List ℕ) → Name → Type 0
refuses minimums name =
    finding (listing minimums) 5 (replicate 4 7) (replicate 4 7) (replicate 25 7) (7 ∷ 7 ∷ []) (7 ∷ []) (7 ∷ [])
    ≡ left_openings (openings_with (refusal name 0) 0 0 0) (replicate 4 7) (replicate 4 7) (replicate 25 7) (7 ∷ 7 ∷ []) (7 ∷ []) (7 ∷ [])

list_too_short : refuses (0 ∷ 0 ∷ 0 ∷ 0 ∷ []) Room
unfolding refuses listing finding finding_as has_room has_lists bounded_sizes differ_four first_bounded_fault bounded_fault arc_fault outside differ bad_ends or_else in_order all_zero run side_from passing
list_too_short = refl

minimum_first : refuses (0 ∷ 0 ∷ 1 ∷ 0 ∷ []) Bounded
unfolding refuses listing finding finding_as has_room bounded_sizes differ_four first_bounded_fault bounded_fault arc_fault outside differ bad_ends or_else in_order all_zero
minimum_first = refl
