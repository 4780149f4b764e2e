-- Worked examples of the order of refusals, by computation.
use Rattle.std.specs.Prelude.{ℕ, ◌≡◌, refl, List, [], ◌∷◌}
use Rattle.table.specs.Ascii.{bytes}
use Rattle.table.specs.Checks.{outside, differ, bad_ends, arc_fault, or_else, in_order, no_refusal, refused}
use Rattle.table.specs.declared.Name.TheVariants.{Ends, Room, Bounded, Solution}
use Rattle.minimums.specs.BoundedTable.{BoundedTable, bounded_of}
use Rattle.minimums.specs.Checks.{differ_four, bounded_sizes, bounded_fault, first_bounded_fault, all_zero}
use Rattle.intake.specs.Verdict.{text_verdict}
use Rattle.scan.specs.Parts.{in_front, parts, fields, is_separator, behind, begins_with}
use Rattle.scan.specs.Numbers.{is_digit, all_digits, decimal, leading_zero, number_form, number_in}
use Rattle.scan.specs.Fields.{is_letter}
use Rattle.amounts.specs.Lines.{value_from, value_of, flow_from, flow_of, kind_of, step_of, end_of, onwards, judge}
use Rattle.plan.specs.Checking.{lines_verdict, plan_verdict}

-- Document 01's P3, 1>2 of 4 and 2>3 of 3, with this sink and these minimums.
abbrev p3 : (sink : ℕ) → List ℕ → BoundedTable
p3 sink minimums = bounded_of 3 1 sink (1 ∷ 2 ∷ []) (2 ∷ 3 ∷ []) (4 ∷ 3 ∷ []) minimums

-- A plan whose lines are of their form, a pair that no arc has among them, with a tab and two blanks; a second `s` line; a side row of 2 marks; a minimum; a sink that is the source.
p3_verdicts : (plan_verdict (p3 3 (0 ∷ 0 ∷ [])) (bytes "s 3\nf 2 3\t3\nf 1  2 3\nf 9 9 0") 3 ≡ no_refusal)
    × (plan_verdict (p3 3 (0 ∷ 0 ∷ [])) (bytes "s 3\ns 3\n") 3 ≡ refused Solution 2)
    × (plan_verdict (p3 3 (0 ∷ 0 ∷ [])) (bytes "s 3\ns 3\n") 2 ≡ refused Room 0)
    × (plan_verdict (p3 3 (0 ∷ 1 ∷ [])) (bytes "s 3\ns 3\n") 2 ≡ refused Bounded 0)
    × (plan_verdict (p3 1 (0 ∷ 1 ∷ [])) (bytes "s 3\ns 3\n") 2 ≡ refused Ends 0)
unfolding plan_verdict lines_verdict text_verdict judge onwards step_of end_of kind_of value_of value_from flow_of flow_from is_letter begins_with parts in_front fields is_separator behind number_in number_form leading_zero all_digits is_digit decimal bounded_sizes differ_four first_bounded_fault bounded_fault all_zero arc_fault outside differ bad_ends or_else in_order
p3_verdicts = (refl, refl, refl, refl, refl)
