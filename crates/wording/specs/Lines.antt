-- Document 02, CR 1: what a text says of its table, line by line; the first line that no solution text has there ends it.
use Rattle.std.specs.Prelude.{ℕ, zero, suc, ◌≡◌, Bool, true, cond, List, [], ◌∷◌, ◌++◌, ltb, length, take, drop, Option, Some, None}
use Rattle.table.specs.Table.{Table}
use Rattle.scan.specs.Parts.{LF, up_to, begins_with}
use Rattle.scan.specs.Numbers.{number_in}
use Rattle.wording.specs.Text.{value_front, flow_front, most_value, IsSolution}

-- The first line of some bytes, without its LF,
abbrev pub first_line : List ℕ → List ℕ
first_line rest = take (up_to LF rest) rest

-- and what stands behind its LF.
abbrev pub behind_line : List ℕ → List ℕ
behind_line rest = drop (suc (up_to LF rest)) rest

-- The first line has its LF.
abbrev pub is_ended : List ℕ → Bool
is_ended rest = ltb (up_to LF rest) (length rest)

-- A number that is not above `most`.
unfoldable pub not_above : (most : ℕ) → Option ℕ → Option ℕ
not_above most (Some x) = cond (ltb most x) None (Some x)
not_above most None = None

-- The number that a line says behind these bytes, if it begins with them and its number is not above `most`.
unfoldable pub number_behind : (front : List ℕ) (most : ℕ) (line : List ℕ) → Option ℕ
number_behind front most line = cond (begins_with front line) (not_above most (number_in (drop (length front) line))) None

-- That of the first line of some bytes, if the line has its LF: a line that some solution text has there, or none.
unfoldable pub first_number : (front : List ℕ) (most : ℕ) (rest : List ℕ) → Option ℕ
first_number front most rest = cond (is_ended rest) (number_behind front most (first_line rest)) None

-- What the lines of arcs say: flows, or nothing, where the line of this number is the first that no solution text has there.
pub data Said : Type 0 where
  flows : List ℕ → Said
  nothing : (line : ℕ) → Said

-- Flows in front of those that further lines say.
unfoldable pub say_first : List ℕ → Said → Said
say_first first (flows rest) = flows (first ++ rest)
say_first first (nothing line) = nothing line

-- The line with this number says a flow, which stands in front of those that the further lines say.
unfoldable pub say_next : Option ℕ → (line : ℕ) → Said → Said
say_next (Some flow) line rest = say_first (flow ∷ []) rest
say_next None line rest = nothing line

-- The lines of arcs: one for each, its flow within the capacity, and no line more. `line` is the number of the first.
unfoldable pub flows_said : (tails heads capacities : List ℕ) (line : ℕ) (rest : List ℕ) → Said
flows_said [] heads capacities line rest = cond (ltb 0 (length rest)) (nothing line) (flows [])
flows_said (t ∷ ts) [] capacities line rest = nothing line
flows_said (t ∷ ts) (h ∷ hs) [] line rest = nothing line
flows_said (t ∷ ts) (h ∷ hs) (c ∷ cs) line rest =
    say_next (first_number (flow_front t h) c rest) line (flows_said ts hs cs (suc line) (behind_line rest))

-- What a text says: a value and flows, or nothing, where the line of this number is the first that no solution text has there.
pub data Words : Type 0 where
  words : (value : ℕ) (flow : List ℕ) → Words
  stop : (line : ℕ) → Words

-- The value before what the lines of arcs say.
unfoldable pub words_of : (value : ℕ) → Said → Words
words_of value (flows row) = words value row
words_of value (nothing line) = stop line

-- The value's line stands first, then the lines of the arcs.
unfoldable pub words_from : Option ℕ → Said → Words
words_from (Some value) said = words_of value said
words_from None said = stop 1

-- What a text says of a table with these arcs.
unfoldable pub text_words : (tails heads capacities text : List ℕ) → Words
text_words tails heads capacities text =
    words_from (first_number value_front most_value text) (flows_said tails heads capacities 2 (behind_line text))

-- Two texts have their first lines in common, so many, each with its LF.
unfoldable pub Shares : (count : ℕ) (text other : List ℕ) → Type 0
Shares zero text other = Unit {0}
Shares (suc count) text other =
    (is_ended text ≡ true) × (is_ended other ≡ true) × (first_line text ≡ first_line other) × Shares count (behind_line text) (behind_line other)

-- The line of this number is the first that no solution text of the table has there: some solution text has the lines before it, and none has these
-- and this one (proved: stops_first). A line that is missing, or has no LF, no text has.
pub record FirstWrong (t : Table) (text : List ℕ) (line : ℕ) : Type 0 where
  pub before : ℕ
  pub next : line ≡ suc before
  pub other : List ℕ
  pub value : ℕ
  pub row : List ℕ
  pub solution : IsSolution t other value row
  pub so_far : Shares before text other
  pub no_further : (other : List ℕ) (value : ℕ) (row : List ℕ) → IsSolution t other value row → Shares (suc before) text other → ⊥
