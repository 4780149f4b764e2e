-- Worked examples by computation, on document 01's listing: its answer written out and read back, and refusals that leave the lent row.
use Rattle.std.specs.Prelude.{ℕ, ◌≡◌, refl, List, [], ◌∷◌, ◌++◌}
use Rattle.table.specs.Ascii.{bytes}
use Rattle.table.specs.Checks.{outside, differ, bad_ends, arc_fault, or_else, in_order}
use Rattle.table.specs.declared.Name.TheVariants.{Room, Bounded, Solution}
use Rattle.minimums.specs.BoundedTable.{BoundedTable, bounded_of}
use Rattle.minimums.specs.Checks.{differ_four, bounded_sizes, bounded_fault, first_bounded_fault, all_zero}
use Rattle.intake.specs.Verdict.{text_verdict}
use Rattle.scan.specs.Parts.{run, begins_with}
use Rattle.scan.specs.Numbers.{is_digit, all_digits, decimal, leading_zero, number_form, number_in}
use Rattle.pen.specs.Printed.{digits_of}
use Rattle.wording.specs.Text.{flow_front, flow_lines, solution_text}
use Rattle.wording.specs.Lines.{not_above, number_behind, first_number, say_first, say_next, flows_said, words_of, words_from, text_words}
use Rattle.solution.specs.Writing.{written_with, has_text_room, first_above, numbers_verdict, writing_verdict, writing_as, writing}
use Rattle.solution.specs.Writing.{left as left_written}
use Rattle.solution.specs.Reading.{left, back_with, refusing, left_by, reading_as, reading}

-- The listing's table with these minimums: 1>2 of 4, 1>3 of 2, 2>3 of 4, 3>4 of 1.
abbrev listing : List ℕ → BoundedTable
listing minimums = bounded_of 4 1 4 (1 ∷ 1 ∷ 2 ∷ 3 ∷ []) (2 ∷ 3 ∷ 3 ∷ 4 ∷ []) (4 ∷ 2 ∷ 4 ∷ 1 ∷ []) minimums

-- The text of its answer.
abbrev answered : List ℕ
answered = bytes "s 1\nf 1 2 1\nf 1 3 0\nf 2 3 1\nf 3 4 1\n"

-- Written into a row of one byte more; a row of one byte less is ROOM, a flow of 3 where 2 fit SOLUTION at 1, a value above 4,096,000,000 SOLUTION at m.
listing_written : (writing (listing (0 ∷ 0 ∷ 0 ∷ 0 ∷ [])) 1 (1 ∷ 0 ∷ 1 ∷ 1 ∷ []) (answered ++ (7 ∷ [])) ≡ left_written (written_with 0 0 36) (answered ++ (7 ∷ [])))
    × (writing (listing (0 ∷ 0 ∷ 0 ∷ 0 ∷ [])) 1 (1 ∷ 0 ∷ 1 ∷ 1 ∷ []) (bytes "s 1\nf 1 2 1\nf 1 3 0\nf 2 3 1\nf 3 4 1") ≡ left_written (written_with 5 0 0) (bytes "s 1\nf 1 2 1\nf 1 3 0\nf 2 3 1\nf 3 4 1"))
    × (writing (listing (0 ∷ 0 ∷ 0 ∷ 0 ∷ [])) 1 (1 ∷ 3 ∷ 1 ∷ 1 ∷ []) answered ≡ left_written (written_with 16 1 0) answered)
    × (writing (listing (0 ∷ 0 ∷ 0 ∷ 0 ∷ [])) 4096000001 (1 ∷ 0 ∷ 1 ∷ 1 ∷ []) (answered ++ answered) ≡ left_written (written_with 16 4 0) (answered ++ answered))
unfolding writing writing_as writing_verdict numbers_verdict first_above has_text_room solution_text flow_lines flow_front digits_of bounded_sizes differ_four first_bounded_fault bounded_fault all_zero arc_fault outside differ bad_ends or_else in_order
listing_written = (refl, refl, refl, refl)

-- Read back into a row of one place more; a minimum above 0 is BOUNDED, a row of 3 places ROOM, a text without its last LF SOLUTION at 5.
listing_read : (reading (listing (0 ∷ 0 ∷ 0 ∷ 0 ∷ [])) answered (7 ∷ 7 ∷ 7 ∷ 7 ∷ 7 ∷ []) ≡ left (back_with 0 0 1) (1 ∷ 0 ∷ 1 ∷ 1 ∷ 7 ∷ []))
    × (reading (listing (0 ∷ 1 ∷ 0 ∷ 0 ∷ [])) [] (7 ∷ []) ≡ refusing Bounded 0 (7 ∷ []))
    × (reading (listing (0 ∷ 0 ∷ 0 ∷ 0 ∷ [])) [] (7 ∷ 7 ∷ 7 ∷ []) ≡ refusing Room 0 (7 ∷ 7 ∷ 7 ∷ []))
    × (reading (listing (0 ∷ 0 ∷ 0 ∷ 0 ∷ [])) (bytes "s 1\nf 1 2 1\nf 1 3 0\nf 2 3 1\nf 3 4 1") (7 ∷ 7 ∷ 7 ∷ 7 ∷ []) ≡ refusing Solution 5 (7 ∷ 7 ∷ 7 ∷ 7 ∷ []))
unfolding reading reading_as left_by text_verdict text_words words_from words_of flows_said say_next say_first first_number number_behind not_above begins_with run number_in number_form leading_zero all_digits is_digit decimal flow_front digits_of bounded_sizes differ_four first_bounded_fault bounded_fault all_zero arc_fault outside differ bad_ends or_else in_order
listing_read = (refl, refl, refl, refl)
