-- The former rule of document 01, before document 02's requests 2 and 11. It is kept for one theorem alone, `former_same`: every text that it accepted gives the same table.
use Rattle.std.specs.Prelude.{ℕ, cond, List, [], ◌∷◌, ◌++◌, ltb, eqb, length, get_or, drop, Some, Ok, Err}
use Prim.Native.Char.{code}
use Rattle.minimums.specs.declared.Arc.{Arc}
use Rattle.table.specs.declared.Name.TheVariants.{Long}
use Rattle.table.specs.Checks.{refusal_at}
use Rattle.table.specs.Ascii.{bytes}
use Rattle.minimums.specs.BoundedTable.{record_table}
use Rattle.minimums.specs.Checks.{bounded_check}
use Rattle.scan.specs.Parts.{parts, lines, begins_with}
use Rattle.scan.specs.Numbers.{number_in}
use Rattle.scan.specs.Fields.{is_letter}
use Rattle.text.specs.declared.Kind.{Kind}
use Rattle.text.specs.declared.Kind.TheVariants.{Comment, Other}
use Rattle.text.specs.declared.Progress.{Progress}
use Rattle.text.specs.Lines.{Given, problem_from, end_of, arc_from, step_of, end_step, onwards, fresh, arc_in}
use Rattle.text.specs.Reading.{has_arc_room, given_as}

-- Fields were parted by exactly one blank, with none at the ends: two blanks, or one at an end, left an empty field.
abbrev pub former_fields : List ℕ → List (List ℕ)
former_fields = parts (code " ") ([] ∷ [])

-- What the p line went on with behind its fixed bytes: n and m.
unfoldable pub former_problem : (fs : List (List ℕ)) → Kind
former_problem fs = cond (eqb (length fs) 2) (problem_from (number_in (get_or fs 0 [])) (number_in (get_or fs 1 []))) Other

-- An `a` line had three numbers, and no minimum.
unfoldable pub former_arc : (fs : List (List ℕ)) → Kind
former_arc fs = cond (eqb (length fs) 4) (arc_from (Some 0) (number_in (get_or fs 1 [])) (number_in (get_or fs 2 [])) (number_in (get_or fs 3 []))) Other

-- What a line was; the p line began with the fixed bytes `p max `.
unfoldable pub former_kind : List ℕ → Kind
former_kind line =
    cond (begins_with (bytes "c") line) Comment
    (cond (begins_with (bytes "p max ") line) (former_problem (former_fields (drop 6 line)))
    (cond (is_letter (code "n") (get_or (former_fields line) 0 [])) (end_of (former_fields line))
    (cond (is_letter (code "a") (get_or (former_fields line) 0 [])) (former_arc (former_fields line)) Other)))

-- The text was judged in line order, as it is now.
unfoldable pub former_judge : List (List ℕ) → Progress → (place : ℕ) → Given
former_judge [] p place = end_step p place
former_judge (line ∷ rest) p place = onwards (step_of p (former_kind line)) place (former_judge rest)

-- The arcs of the lines, in order of place.
unfoldable pub former_arcs : List (List ℕ) → List Arc
former_arcs [] = []
former_arcs (line ∷ rest) = arc_in (former_kind line) ++ former_arcs rest

-- The first line at fault came before the table, as it does now.
unfoldable pub former_after : List Arc → Given → (tails heads capacities minimums : ℕ) → Given
former_after arcs (Ok h) tails heads capacities minimums =
    given_as (bounded_check (record_table h.nodes h.source h.sink arcs) (has_arc_room h.arcs tails heads capacities minimums)) h
former_after arcs (Err why) tails heads capacities minimums = Err why

-- What a text gave, with arc rows of these lengths.
unfoldable pub former_given : (text : List ℕ) (tails heads capacities minimums : ℕ) → Given
former_given text tails heads capacities minimums =
    cond (ltb 1048576 (length text)) (Err (refusal_at Long 0))
    (former_after (former_arcs (lines text)) (former_judge (lines text) fresh 1) tails heads capacities minimums)
