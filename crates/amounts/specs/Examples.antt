-- Worked examples by computation: what the lines of a text say, and the first that is at fault.
use Rattle.std.specs.Prelude.{◌≡◌, refl, [], ◌∷◌, Ok, Err}
use Rattle.table.specs.Ascii.{bytes}
use Rattle.scan.specs.Parts.{in_front, parts, fields, is_separator, behind, begins_with, lines}
use Rattle.scan.specs.Numbers.{is_digit, all_digits, decimal, leading_zero, number_form, number_in}
use Rattle.scan.specs.Fields.{is_letter}
use Rattle.amounts.specs.Lines.{value_from, value_of, flow_from, flow_of, kind_of, step_of, end_of, onwards, judge, judged, amount_in, amounts_of}

-- A comment before the `s` line, tabs, an amount of a pair in two lines, no last LF; the `f` line before the `s` line; a second `s` line; an empty line; no `s` line.
lines_judged : (judged (bytes "c week 7\ns 5\nf 1  2\t3 \nf 1 2 2") ≡ Ok 5)
    × (judged (bytes "f 1 2 3\ns 3\n") ≡ Err (record { line = 1 }))
    × (judged (bytes "s 3\nf 1 2 3\ns 3\n") ≡ Err (record { line = 3 }))
    × (judged (bytes "s 3\n\nf 1 2 3\n") ≡ Err (record { line = 2 }))
    × (judged (bytes "c week 7\n") ≡ Err (record { line = 2 }))
    × (judged [] ≡ Err (record { line = 1 }))
unfolding judge onwards step_of end_of kind_of value_of value_from flow_of flow_from is_letter begins_with parts in_front fields is_separator behind number_in number_form leading_zero all_digits is_digit decimal
lines_judged = (refl, refl, refl, refl, refl, refl)

-- The amounts of the first.
lines_amounts : amounts_of (lines (bytes "c week 7\ns 5\nf 1  2\t3 \nf 1 2 2")) ≡ record { tail = 1; head = 2; flow = 3 } ∷ record { tail = 1; head = 2; flow = 2 } ∷ []
unfolding amounts_of amount_in kind_of value_of value_from flow_of flow_from is_letter begins_with parts in_front fields is_separator behind number_in number_form leading_zero all_digits is_digit decimal
lines_amounts = refl
