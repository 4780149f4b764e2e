-- Document 02, CR 1: what reading a solution text back against its table returns, and what the lent flow row holds afterwards.
use Rattle.std.specs.Prelude.{ℕ, List, ◌++◌, leb, length, drop, Ok, Err}
use Rattle.table.specs.Table.{Table, arcs}
use Rattle.table.specs.Refusals.{number_of}
use Rattle.table.specs.declared.Name.{Name}
use Rattle.table.specs.declared.Name.TheVariants.{Solution}
use Rattle.minimums.specs.BoundedTable.{BoundedTable}
use Rattle.intake.specs.Verdict.{text_verdict}
use Rattle.wording.specs.Lines.{Words, words, stop, text_words}
use Rattle.solution.specs.declared.ReadBack.{ReadBack}
use Rattle.table.specs.Checks.{Verdict}

-- What the call returns, and what the flow row holds afterwards.
pub record Left : Type 0 where
  pub back : ReadBack
  pub flow : List ℕ

-- The same, from its parts.
abbrev pub left : ReadBack → List ℕ → Left
left back flow = record { back = back; flow = flow }

-- What is returned: a refusal's number and place, or the value.
abbrev pub back_with : (refusal place value : ℕ) → ReadBack
back_with refusal place value = record { refusal = refusal; place = place; value = value }

-- A refusal returns its number and place, the value 0, and leaves the row unchanged.
abbrev pub refusing : Name → (place : ℕ) → (flow : List ℕ) → Left
refusing name place flow = left (back_with (number_of name) place 0) flow

-- The flows that a text says go into the first m places of the row; or SOLUTION at the line that no solution text has there.
unfoldable pub left_by : Words → (flow : List ℕ) → Left
left_by (words value row) flow = left (back_with 0 0 value) (row ++ drop (length row) flow)
left_by (stop line) flow = refusing Solution line flow

-- A refusal, or what the text says.
unfoldable pub reading_as : Verdict → Table → (text flow : List ℕ) → Left
reading_as (Ok _) t text flow = left_by (text_words t.tails t.heads t.capacities text) flow
reading_as (Err why) t text flow = refusing why.name why.place flow

-- Reading a text back against its table into this flow row, which has room for m flows.
unfoldable pub reading : BoundedTable → (text flow : List ℕ) → Left
reading b text flow = reading_as (text_verdict b (length text) (leb (arcs b.table) (length flow))) b.table text flow
