-- Document 02, CR 1: what writing a solution returns, and what the lent text row holds afterwards.
use Rattle.std.specs.Prelude.{ℕ, suc, Bool, true, not, ◌&&◌, List, [], ◌∷◌, ◌++◌, ltb, leb, length, drop, Ok, Err}
use Rattle.table.specs.Table.{Table, arcs}
use Rattle.table.specs.Checks.{refuse_if, or_else, no_refusal, Verdict}
use Rattle.table.specs.Refusals.{number_of}
use Rattle.table.specs.declared.Name.TheVariants.{Room, Solution}
use Rattle.minimums.specs.BoundedTable.{BoundedTable}
use Rattle.minimums.specs.Checks.{plain_check}
use Rattle.wording.specs.Text.{solution_text, most_value}
use Rattle.solution.specs.declared.Written.{Written}

-- What the call returns, and what the text row holds afterwards.
pub record Left : Type 0 where
  pub written : Written
  pub text : List ℕ

-- The same, from its parts.
abbrev pub left : Written → List ℕ → Left
left written text = record { written = written; text = text }

-- What is returned: a refusal's number and place, or how many bytes were filled.
abbrev pub written_with : (refusal place filled : ℕ) → Written
written_with refusal place filled = record { refusal = refusal; place = place; filled = filled }

-- ROOM: the flow row has m places, and a text row of this length has the text with these very numbers.
unfoldable pub has_text_room : Table → (value : ℕ) (flow : List ℕ) (text : ℕ) → Bool
has_text_room t value flow text = leb (arcs t) (length flow) && leb (length (solution_text t value flow)) text

-- SOLUTION at the first flow above its capacity, of arcs whose places start at `place`.
unfoldable pub first_above : (place : ℕ) (capacities flow : List ℕ) → Verdict
first_above place [] flow = no_refusal
first_above place (c ∷ cs) [] = no_refusal
first_above place (c ∷ cs) (f ∷ fs) = refuse_if (ltb c f) Solution place (first_above (suc place) cs fs)

-- SOLUTION: at the first flow above its capacity, or at m for a value above 4,096,000,000.
unfoldable pub numbers_verdict : (capacities : List ℕ) (value : ℕ) (flow : List ℕ) → Verdict
numbers_verdict capacities value flow =
    or_else (first_above 0 capacities flow) (refuse_if (ltb most_value value) Solution (length capacities) no_refusal)

-- The order: the table's own checks with BOUNDED, ROOM, SOLUTION.
unfoldable pub writing_verdict : BoundedTable → (value : ℕ) (flow : List ℕ) (text : ℕ) → Verdict
writing_verdict b value flow text =
    or_else (plain_check b true)
    (refuse_if (not (has_text_room b.table value flow text)) Room 0 (numbers_verdict b.table.capacities value flow))

-- The text stands at the front of its row and the rest is unchanged; a refusal leaves the row unchanged.
unfoldable pub writing_as : Verdict → Table → (value : ℕ) (flow text : List ℕ) → Left
writing_as (Ok _) t value flow text =
    left (written_with 0 0 (length (solution_text t value flow))) (solution_text t value flow ++ drop (length (solution_text t value flow)) text)
writing_as (Err why) t value flow text = left (written_with (number_of why.name) why.place 0) text

-- Writing the solution of a table with this value and flow row into this text row.
unfoldable pub writing : BoundedTable → (value : ℕ) (flow text : List ℕ) → Left
writing b value flow text = writing_as (writing_verdict b value flow (length text)) b.table value flow text
