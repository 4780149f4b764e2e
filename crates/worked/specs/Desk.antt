-- What the desk prints for a text whose minimums are all 0.
use Rattle.std.specs.Prelude.{ℕ, Bool, true, cond, List, ltb, length, Ok, Err}
use Rattle.table.specs.declared.Name.TheVariants.{Long}
use Rattle.minimums.specs.Checks.{plain}
use Rattle.scan.specs.Parts.{lines}
use Rattle.text.specs.Lines.{Given}
use Rattle.text.specs.Reading.{text_table, given_by}
use Rattle.report.specs.Printed.{refused_text}
use Rattle.counter.specs.Desk.{table_text}

-- By the reader's answer: of a table that was read its solution, on refusal the name and the place.
unfoldable pub answer_text : (text : List ℕ) → Given → List ℕ
answer_text text (Ok h) = table_text (text_table (lines text) h.nodes h.source h.sink).table
answer_text text (Err why) = refused_text why.name why.place

-- What is printed for such a text, and nothing else may be (proved: desk_alone): more than 65,536 bytes is LONG; the arc rows hold 4,096 places.
unfoldable pub desk_text : (text : List ℕ) → List ℕ
desk_text text = cond (ltb 65536 (length text)) (refused_text Long 0) (answer_text text (given_by text 4096 4096 4096 4096))

-- Whether the table that was read has no minimum above 0.
unfoldable pub plain_by : (text : List ℕ) → Given → Bool
plain_by text (Ok h) = plain (text_table (lines text) h.nodes h.source h.sink)
plain_by text (Err why) = true

-- Whether a text has none.
abbrev pub plain_text : (text : List ℕ) → Bool
plain_text text = plain_by text (given_by text 4096 4096 4096 4096)
