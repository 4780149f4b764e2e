-- Document 02, CR 8: what a line of a rota maker's solution text is, and the order of lines. Numbers, separators and comments follow document 01 as it now reads.
use Rattle.std.specs.Prelude.{ℕ, suc, cond, List, [], ◌∷◌, ◌++◌, eqb, length, Option, Some, None, Result, Ok, Err, ok_or}
use Prim.Native.Char.{code}
use Rattle.table.specs.Ascii.{bytes}
use Rattle.scan.specs.Parts.{lines, fields, begins_with}
use Rattle.scan.specs.Fields.{field_at, number_at, is_letter}
use Rattle.amounts.specs.declared.Amount.{Amount}
use Rattle.amounts.specs.declared.Kind.{Kind}
use Rattle.amounts.specs.declared.Kind.TheVariants.{Comment, ValueLine, FlowLine, Other}
use Rattle.scan.specs.declared.Fault.{Fault}

-- An `s` line, where VALUE is a number.
unfoldable pub value_from : Option ℕ → Kind
value_from (Some v) = ValueLine v
value_from None = Other

-- `s VALUE`, of a line whose first field is `s`.
unfoldable pub value_of : List ℕ → Kind
value_of line = cond (eqb (length (fields line)) 2) (value_from (number_at line 1)) Other

-- An `f` line, where TAIL, HEAD and FLOW are numbers.
unfoldable pub flow_from : Option ℕ → Option ℕ → Option ℕ → Kind
flow_from (Some t) (Some h) (Some f) = FlowLine (record { tail = t; head = h; flow = f })
flow_from (Some t) (Some h) None = Other
flow_from (Some t) None f = Other
flow_from None h f = Other

-- `f TAIL HEAD FLOW`, of a line whose first field is `f`.
unfoldable pub flow_of : List ℕ → Kind
flow_of line = cond (eqb (length (fields line)) 4) (flow_from (number_at line 1) (number_at line 2) (number_at line 3)) Other

-- What a line is. A line whose first byte is `c` is a comment; an empty line is not.
unfoldable pub kind_of : List ℕ → Kind
kind_of line =
    cond (begins_with (bytes "c") line) Comment
    (cond (is_letter (code "s") (field_at line 0)) (value_of line)
    (cond (is_letter (code "f") (field_at line 0)) (flow_of line) Other))

-- What the `s` line has said once a line is taken, with what it has said by then, or the line is at fault: the `s` line comes first, and once; a comment may stand anywhere.
unfoldable pub step_of : (said : Option ℕ) → Kind → (place : ℕ) → Result (Option ℕ) Fault
step_of said Comment place = Ok said
step_of None (ValueLine v) place = Ok (Some v)
step_of (Some w) (ValueLine v) place = Err (record { line = place })
step_of None (FlowLine f) place = Err (record { line = place })
step_of (Some w) (FlowLine f) place = Ok (Some w)
step_of said Other place = Err (record { line = place })

-- The end of the text, one past the last line.
unfoldable pub end_of : (said : Option ℕ) (place : ℕ) → Result ℕ Fault
end_of said place = ok_or said (record { line = place })

-- A line is followed by the others, or it is the first at fault.
unfoldable pub onwards : Result (Option ℕ) Fault → (place : ℕ) → (Option ℕ → ℕ → Result ℕ Fault) → Result ℕ Fault
onwards (Ok said) place rest = rest said (suc place)
onwards (Err fault) place rest = Err (record { line = place })

-- The text is judged in line order.
unfoldable pub judge : List (List ℕ) → (said : Option ℕ) (place : ℕ) → Result ℕ Fault
judge [] said place = end_of said place
judge (line ∷ rest) said place = onwards (step_of said (kind_of line) place) place (judge rest)

-- What the lines of a text say.
abbrev pub judged : (text : List ℕ) → Result ℕ Fault
judged text = judge (lines text) None 1

-- The amount of a line: only an `f` line has one.
unfoldable pub amount_in : Kind → List Amount
amount_in Comment = []
amount_in (ValueLine v) = []
amount_in (FlowLine f) = f ∷ []
amount_in Other = []

-- The amounts of the lines.
unfoldable pub amounts_of : List (List ℕ) → List Amount
amounts_of [] = []
amounts_of (line ∷ rest) = amount_in (kind_of line) ++ amounts_of rest
