-- Documents 01 and 02: "LONG holds for every text read, solution texts too, and comes first"; then the table's own checks, then ROOM.
use Rattle.std.specs.Prelude.{ℕ, Bool, true, not, ltb}
use Rattle.table.specs.Checks.{refuse_if, or_else, no_refusal, Verdict}
use Rattle.table.specs.declared.Name.TheVariants.{Room, Long}
use Rattle.minimums.specs.BoundedTable.{BoundedTable}
use Rattle.minimums.specs.Checks.{plain_check}

-- What comes before a text of this length is read: LONG, the table's own checks with BOUNDED, and ROOM where the caller's row has none.
unfoldable pub text_verdict : BoundedTable → (text : ℕ) (room : Bool) → Verdict
text_verdict b text room = refuse_if (ltb 1048576 text) Long 0 (or_else (plain_check b true) (refuse_if (not room) Room 0 no_refusal))
