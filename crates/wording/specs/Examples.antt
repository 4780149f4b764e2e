-- Worked examples by computation, on document 01's listing: its answer's text, what that says, and each place of SOLUTION.
use Rattle.std.specs.Prelude.{◌≡◌, refl, ℕ, List, [], ◌∷◌}
use Rattle.table.specs.Ascii.{bytes}
use Rattle.table.specs.Table.{Table, table_of}
use Rattle.scan.specs.Parts.{run, begins_with}
use Rattle.scan.specs.Numbers.{is_digit, all_digits, decimal, leading_zero, number_form, number_in}
use Rattle.pen.specs.Printed.{digits_of}
use Rattle.wording.specs.Text.{flow_front, flow_lines, solution_text}
use Rattle.wording.specs.Lines.{not_above, number_behind, first_number, say_first, say_next, flows_said, words, stop, Words, words_of, words_from, text_words}

-- The listing's table: 1>2 of 4, 1>3 of 2, 2>3 of 4, 3>4 of 1.
abbrev listing : Table
listing = table_of 4 1 4 (1 ∷ 1 ∷ 2 ∷ 3 ∷ []) (2 ∷ 3 ∷ 3 ∷ 4 ∷ []) (4 ∷ 2 ∷ 4 ∷ 1 ∷ [])

-- The text of its answer, value 1 and flows 1 0 1 1.
listing_text : solution_text listing 1 (1 ∷ 0 ∷ 1 ∷ 1 ∷ []) ≡ bytes "s 1\nf 1 2 1\nf 1 3 0\nf 2 3 1\nf 3 4 1\n"
unfolding solution_text flow_lines flow_front digits_of
listing_text = refl

-- What a text says of it.
abbrev said_of_listing : List ℕ → Words
said_of_listing = text_words listing.tails listing.heads listing.capacities

-- What the answer's says; and where no solution text goes on: the last LF missing; a flow above its capacity; the zero left out; a line missing; a line too many; a comment; no text.
listing_said : (said_of_listing (bytes "s 1\nf 1 2 1\nf 1 3 0\nf 2 3 1\nf 3 4 1\n") ≡ words 1 (1 ∷ 0 ∷ 1 ∷ 1 ∷ []))
    × (said_of_listing (bytes "s 1\nf 1 2 1\nf 1 3 0\nf 2 3 1\nf 3 4 1") ≡ stop 5)
    × (said_of_listing (bytes "s 1\nf 1 2 1\nf 1 3 3\nf 2 3 1\nf 3 4 1\n") ≡ stop 3)
    × (said_of_listing (bytes "s 1\nf 1 2 1\nf 2 3 1\nf 3 4 1\n") ≡ stop 3)
    × (said_of_listing (bytes "s 1\nf 1 2 1\nf 1 3 0\n") ≡ stop 4)
    × (said_of_listing (bytes "s 1\nf 1 2 1\nf 1 3 0\nf 2 3 1\nf 3 4 1\n\n") ≡ stop 6)
    × (said_of_listing (bytes "c our week\ns 1\nf 1 2 1\nf 1 3 0\nf 2 3 1\nf 3 4 1\n") ≡ stop 1)
    × (said_of_listing [] ≡ stop 1)
unfolding text_words words_from words_of flows_said say_next say_first first_number number_behind not_above begins_with run number_in number_form leading_zero all_digits is_digit decimal flow_front digits_of
listing_said = (refl, refl, refl, refl, refl, refl, refl, refl)
