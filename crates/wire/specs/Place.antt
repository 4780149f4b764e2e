-- Document 02, CR 4: reading by place for the booking server.
use Rattle.std.specs.Prelude.{ℕ, cond, List, [], ◌∷◌, ◌++◌, eqb, length, drop}
use Rattle.little.specs.Little.{bytes_of_all}
use Rattle.table.specs.Table.{Table, arcs}
use Rattle.table.specs.Checks.{or_else, check_of, Verdict}
use Rattle.stamps.specs.Stamp.{behind, relation_at}
use Rattle.planner.specs.declared.Reading.{Reading}
use Rattle.planner.specs.Reading.{read_at, stamp_verdict, place_verdict, reading_as}
use Rattle.wire.specs.Rows.{flow_row, returned_of, has_byte_room}

-- What the call returns, and what the result row holds afterwards.
pub record Told : Type 0 where
  pub returned : ℕ
  pub result : List ℕ

-- The same, from its parts.
abbrev pub told : ℕ → List ℕ → Told
told returned result = record { returned = returned; result = result }

-- The three numbers of a reading: flow, capacity and crossing.
abbrev pub three : Reading → List ℕ
three r = r.flow ∷ r.capacity ∷ r.crossing ∷ []

-- A reading, as bytes: the three numbers, later bytes as they were; of a refusal its number and place, every byte as it was.
unfoldable pub told_as : Reading → (result : List ℕ) → Told
told_as r result =
    cond (eqb r.refusal 0) (told 0 (bytes_of_all 8 (three r) ++ drop 24 result)) (told (returned_of r.refusal r.place) result)

-- The order: the table's own checks with the ROOM of byte rows, stamps, PLACE.
abbrev pub telling_verdict : Table → (stamp answer : ℕ) → (flow side : List ℕ) → (place : ℕ) → (result : List ℕ) → Verdict
telling_verdict t stamp answer flow side place result =
    or_else (check_of t (has_byte_room 24 t.nodes (arcs t) (length flow) (length side) (length result)))
    (or_else (stamp_verdict (relation_at (behind stamp answer))) (place_verdict (arcs t) place))

-- Reading by place for the server: by that verdict what reading answers (it is the library's own reading: `tells_own`).
unfoldable pub telling : Table → (stamp answer : ℕ) → (flow side : List ℕ) → (place : ℕ) → (result : List ℕ) → Told
telling t stamp answer flow side place result =
    told_as (reading_as (telling_verdict t stamp answer flow side place result) (read_at t (flow_row (arcs t) flow) side place)) result
