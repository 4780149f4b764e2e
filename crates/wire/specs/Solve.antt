-- Document 02, CR 4: solving for the booking server.
use Rattle.std.specs.Prelude.{ℕ, ◌*◌, cond, List, [], ◌∷◌, ◌++◌, eqb, length, take, drop}
use Rattle.little.specs.Little.{bytes_of_all}
use Rattle.table.specs.Table.{Table, arcs}
use Rattle.table.specs.Checks.{check_of, Verdict}
use Rattle.solver.specs.declared.Answer.{Answer}
use Rattle.solver.specs.Solving.{Left, solving_as}
use Rattle.wire.specs.Rows.{returned_of, has_byte_room}

-- What the call returns, and what the three byte rows lent to it hold afterwards.
pub record Served : Type 0 where
  pub returned : ℕ
  pub flow : List ℕ
  pub side : List ℕ
  pub result : List ℕ

-- The same, from its parts.
abbrev pub served : ℕ → (flow side result : List ℕ) → Served
served returned flow side result = record { returned = returned; flow = flow; side = side; result = result }

-- The seven numbers of a result: stamp, value, D, K and the three counts.
abbrev pub seven : Answer → List ℕ
seven a = a.stamp ∷ a.value ∷ a.scale ∷ a.phases ∷ a.saturating ∷ a.nonsaturating ∷ a.relabels ∷ []

-- What solving leaves, as bytes: m flows, n marks and the seven numbers, later bytes as they were; of a refusal its number and place, every byte as it was.
unfoldable pub served_as : (n m : ℕ) → Left → (flow side result : List ℕ) → Served
served_as n m l flow side result =
    cond (eqb l.answer.refusal 0)
    (served 0
    (bytes_of_all 4 (take m l.flow) ++ drop (4 * m) flow)
    (take n l.side ++ drop n side)
    (bytes_of_all 8 (seven l.answer) ++ drop 56 result))
    (served (returned_of l.answer.refusal l.answer.place) flow side result)

-- What the checks find, in document 01's order, with the ROOM of byte rows.
abbrev pub serving_verdict : Table → (flow side result : List ℕ) → Verdict
serving_verdict t flow side result = check_of t (has_byte_room 56 t.nodes (arcs t) (length flow) (length side) (length result))

-- Solving a table for the server: by that verdict what solving leaves, in rows of its own without later places (in any rows that have room: `own_rows`).
unfoldable pub serving : Table → (stamp : ℕ) → (flow side result : List ℕ) → Served
serving t stamp flow side result =
    served_as t.nodes (arcs t) (solving_as (serving_verdict t flow side result) t stamp [] [] []) flow side result
