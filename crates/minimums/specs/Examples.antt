-- Worked examples of the checks, by computation.
use Rattle.std.specs.Prelude.{◌≡◌, refl, true, false, [], ◌∷◌}
use Rattle.table.specs.Checks.{outside, differ, bad_ends, arc_fault, or_else, in_order, no_refusal, refused}
use Rattle.table.specs.declared.Name.TheVariants.{Rows, Room, Capacity, Minimum}
use Rattle.minimums.specs.BoundedTable.{bounded_of}
use Rattle.minimums.specs.Checks.{differ_four, bounded_sizes, bounded_fault, first_bounded_fault, bounded_check}

-- 1>2 of 3 to 4 and 2>2 of 1: the first arc's MINIMUM comes before the second one's LOOP.
minimum_first : bounded_check (bounded_of 3 1 3 (1 ∷ 2 ∷ []) (2 ∷ 2 ∷ []) (3 ∷ 1 ∷ []) (4 ∷ 0 ∷ [])) true ≡ refused Minimum 0
unfolding bounded_sizes differ_four first_bounded_fault bounded_fault arc_fault outside differ bad_ends or_else in_order
minimum_first = refl

-- For one arc CAPACITY comes before MINIMUM,
capacity_first : bounded_check (bounded_of 3 1 3 (1 ∷ 2 ∷ []) (2 ∷ 3 ∷ []) (3 ∷ 1000001 ∷ []) (0 ∷ 1000002 ∷ [])) true ≡ refused Capacity 1
unfolding bounded_sizes differ_four first_bounded_fault bounded_fault arc_fault outside differ bad_ends or_else in_order
capacity_first = refl

-- ROOM before both,
room_first : bounded_check (bounded_of 3 1 3 (1 ∷ 2 ∷ []) (2 ∷ 3 ∷ []) (3 ∷ 1 ∷ []) (4 ∷ 0 ∷ [])) false ≡ refused Room 0
unfolding bounded_sizes differ_four outside differ bad_ends or_else in_order
room_first = refl

-- and ROWS before that: a minimum is missing.
rows_first : bounded_check (bounded_of 3 1 3 (1 ∷ 2 ∷ []) (2 ∷ 3 ∷ []) (3 ∷ 1 ∷ []) (0 ∷ [])) false ≡ refused Rows 0
unfolding bounded_sizes differ_four outside differ or_else in_order
rows_first = refl

-- A minimum as large as its capacity is fine.
minimum_fine : bounded_check (bounded_of 3 1 3 (1 ∷ 2 ∷ []) (2 ∷ 3 ∷ []) (3 ∷ 1 ∷ []) (3 ∷ 1 ∷ [])) true ≡ no_refusal
unfolding bounded_sizes differ_four first_bounded_fault bounded_fault arc_fault outside differ bad_ends or_else in_order
minimum_fine = refl
