-- Document 02, CR 1: the solution text. `s VALUE`, then `f TAIL HEAD FLOW` for each arc by place, zeros included, each line ended by LF.
use Rattle.std.specs.Prelude.{ℕ, ◌≤◌, ◌<◌, ◌≡◌, List, [], ◌∷◌, ◌++◌, length}
use Rattle.rows.specs.Row.{at_place}
use Rattle.table.specs.Ascii.{bytes}
use Rattle.table.specs.Table.{Table, arcs}
use Rattle.pen.specs.Printed.{printed}

-- A line: what it begins with, a number, and LF.
abbrev pub line_of : (front : List ℕ) (number : ℕ) → List ℕ
line_of front number = front ++ (printed number ++ bytes "\n")

-- What the line of the value begins with,
abbrev pub value_front : List ℕ
value_front = bytes "s "

-- and that of an arc's flow: `f TAIL HEAD `.
unfoldable pub flow_front : (tail head : ℕ) → List ℕ
flow_front tail head = bytes "f " ++ (printed tail ++ (bytes " " ++ (printed head ++ bytes " ")))

-- The lines of arcs with these flows.
unfoldable pub flow_lines : (tails heads flow : List ℕ) → List ℕ
flow_lines [] heads flow = []
flow_lines (t ∷ ts) [] flow = []
flow_lines (t ∷ ts) (h ∷ hs) [] = []
flow_lines (t ∷ ts) (h ∷ hs) (f ∷ fs) = line_of (flow_front t h) f ++ flow_lines ts hs fs

-- The text of a value and a flow row, whose places from m on are not written.
unfoldable pub solution_text : Table → (value : ℕ) (flow : List ℕ) → List ℕ
solution_text t value flow = line_of value_front value ++ flow_lines t.tails t.heads flow

-- No value is larger: 4,096 arcs of 1,000,000.
abbrev pub most_value : ℕ
most_value = 4096000000

-- No flow is above its capacity.
abbrev pub Within : (capacities flow : List ℕ) → Type 0
Within capacities flow = (k : ℕ) → k < length capacities → at_place flow k ≤ at_place capacities k

-- What the writer writes of some value and some row within the capacities.
pub record IsSolution (t : Table) (text : List ℕ) (value : ℕ) (row : List ℕ) : Type 0 where
  pub value_fits : value ≤ most_value
  pub long : length row ≡ arcs t
  pub within : Within t.capacities row
  pub is : text ≡ solution_text t value row
