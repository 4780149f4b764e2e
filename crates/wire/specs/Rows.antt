-- Document 02, CR 4: the byte rows of the booking server. All numbers are little-endian.
use Rattle.std.specs.Prelude.{ℕ, ◌+◌, ◌*◌, ◌/◌, ◌^◌, Bool, ◌&&◌, List, leb, length, replicate}
use Rattle.rows.specs.Row.{by_place}
use Rattle.little.specs.Little.{number32}
use Rattle.table.specs.Table.{Table, table_of, arcs}
use Rattle.minimums.specs.BoundedTable.{BoundedTable}
use Rattle.minimums.specs.Checks.{with_minimums}

-- One of the three numbers of each arc, `from` bytes behind the arc's start; an arc has 12 bytes.
abbrev pub arc_row : (from count : ℕ) → List ℕ → List ℕ
arc_row from count bytes = by_place (λ k. number32 bytes (12 * k + from)) count

-- The table that arc bytes give: tail, head, capacity. An arc that is cut off has a tail and no more, so that a length no multiple of 12 is ROWS.
abbrev pub arc_table : (n s t : ℕ) → List ℕ → Table
arc_table n s t bytes =
    table_of n s t (arc_row 0 ((length bytes + 11) / 12) bytes) (arc_row 4 (length bytes / 12) bytes) (arc_row 8 (length bytes / 12) bytes)

-- A table whose minimums are all 0: the server's arcs have none.
abbrev pub without_minimums : Table → BoundedTable
without_minimums t = with_minimums t (replicate (arcs t) 0)

-- The m flows of flow bytes.
abbrev pub flow_row : (m : ℕ) → List ℕ → List ℕ
flow_row m bytes = by_place (λ k. number32 bytes (4 * k + 0)) m

-- The number returned: the refusal's number times 2^32 plus its place.
abbrev pub returned_of : (refusal place : ℕ) → ℕ
returned_of refusal place = refusal * 2 ^ 32 + place

-- ROOM looks at the flow bytes (four for each of m), the marks (one for each of n) and the result row (`need` bytes).
unfoldable pub has_byte_room : (need n m flow side result : ℕ) → Bool
has_byte_room need n m flow side result = leb (4 * m) flow && (leb n side && leb need result)
