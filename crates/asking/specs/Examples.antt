-- Worked examples, by computation.
use Rattle.std.specs.Prelude.{ℕ, ◌≡◌, refl, Bool, true, false, [], ◌∷◌, ◌++◌, replicate}
use Rattle.network.specs.Network.{inflow, outflow}
use Rattle.table.specs.Checks.{outside, differ, bad_ends, arc_fault, or_else, in_order}
use Rattle.table.specs.declared.Name.TheVariants.{Room, Bounded}
use Rattle.minimums.specs.BoundedTable.{BoundedTable, bounded_of}
use Rattle.minimums.specs.Checks.{differ_four, bounded_sizes, bounded_fault, first_bounded_fault, all_zero}
use Rattle.run.specs.Scale.{scale_of, phase_count}
use Rattle.run.specs.declared.Counts.{Counts}
use Rattle.until.specs.Stopping.{into_sink, stopped}
use Rattle.asking.specs.Asking.{room_left, refusal, answer_with, asked, asking_as, asking}

-- Saturating, nonsaturating, relabels.
counts : ℕ → ℕ → ℕ → Counts
counts saturating nonsaturating relabels = record { saturating = saturating; nonsaturating = nonsaturating; relabels = relabels }

-- The table of document 01's listing, P6: 1>2 takes 4, 1>3 takes 2, 2>3 takes 4 and 3>4 takes 1.
listing : BoundedTable
listing = bounded_of 4 1 4 (1 ∷ 1 ∷ 2 ∷ 3 ∷ []) (2 ∷ 3 ∷ 3 ∷ 4 ∷ []) (4 ∷ 2 ∷ 4 ∷ 1 ∷ []) (replicate 4 0)

-- Asked for q, with stamp 3 and a work row of its 29 numbers and one more, it answers so.
listing_says : (q : ℕ) → Bool → (value : ℕ) → Counts → Type 0
listing_says q said value counts =
    asking listing 3 q (replicate 30 9) ≡ room_left (answer_with 3 said value 4 3 counts) (replicate 29 0 ++ 9 ∷ [])

-- None is met by the start,
listing_none : listing_says 0 true 0 (counts 0 0 0)
unfolding listing_says listing counts asking asking_as asked answer_with stopped into_sink bounded_sizes differ_four first_bounded_fault bounded_fault all_zero outside differ bad_ends arc_fault or_else in_order inflow outflow phase_count scale_of
listing_none = refl

-- one on the way,
listing_one : listing_says 1 true 1 (counts 1 1 1)
unfolding listing_says listing counts asking asking_as asked answer_with stopped into_sink bounded_sizes differ_four first_bounded_fault bounded_fault all_zero outside differ bad_ends arc_fault or_else in_order inflow outflow phase_count scale_of
listing_one = refl

-- and two are too many: the run goes to its end.
listing_two : listing_says 2 false 1 (counts 3 6 6)
unfolding listing_says listing counts asking asking_as asked answer_with stopped into_sink bounded_sizes differ_four first_bounded_fault bounded_fault all_zero outside differ bad_ends arc_fault or_else in_order inflow outflow phase_count scale_of
listing_two = refl

-- P3: 1>2 takes 4, 2>3 takes 3. Three are met by one push, and what is left over need not go back.
p3_three :
    asking (bounded_of 3 1 3 (1 ∷ 2 ∷ []) (2 ∷ 3 ∷ []) (4 ∷ 3 ∷ []) (0 ∷ 0 ∷ [])) 3 3 (replicate 19 9)
    ≡ room_left (answer_with 3 true 3 4 3 (counts 1 0 0)) (replicate 19 0)
unfolding counts asking asking_as asked answer_with stopped into_sink bounded_sizes differ_four first_bounded_fault bounded_fault all_zero outside differ bad_ends arc_fault or_else in_order inflow outflow phase_count scale_of
p3_three = refl

-- P2: 1>2 takes 5. The start meets all five, which are more than was asked for.
p2_two :
    asking (bounded_of 2 1 2 (1 ∷ []) (2 ∷ []) (5 ∷ []) (0 ∷ [])) 3 2 (replicate 12 9)
    ≡ room_left (answer_with 3 true 5 0 0 (counts 0 0 0)) (replicate 12 0)
unfolding counts asking asking_as asked answer_with stopped into_sink bounded_sizes differ_four first_bounded_fault bounded_fault all_zero outside differ bad_ends arc_fault or_else in_order inflow outflow phase_count scale_of
p2_two = refl

-- A work row one number short is ROOM, though nothing is asked for,
listing_short : asking listing 3 0 (replicate 28 9) ≡ room_left (refusal Room 0) (replicate 28 9)
unfolding listing asking asking_as bounded_sizes differ_four outside differ bad_ends or_else in_order
listing_short = refl

-- and a minimum above 0 is BOUNDED.
listing_bounded :
    asking (bounded_of 2 1 2 (1 ∷ []) (2 ∷ []) (5 ∷ []) (1 ∷ [])) 3 2 (replicate 12 9) ≡ room_left (refusal Bounded 0) (replicate 12 9)
unfolding asking asking_as bounded_sizes differ_four first_bounded_fault bounded_fault all_zero outside differ bad_ends arc_fault or_else in_order
listing_bounded = refl
