-- Document 02, CR 13, the second call: the filled part of the shorter of two lists, and the same part copied.
use Rattle.std.specs.Prelude.{ℕ, cond, List, [], ltb, length, take}
use Rattle.table.specs.Refusals.{refusal_in, place_in}
use Rattle.table.specs.declared.Name.TheVariants.{Room}
use Rattle.listing.specs.Passing.{filled_with}
use Rattle.shorter.specs.declared.Part.{Part}
use Rattle.table.specs.Checks.{no_refusal, refused, Verdict}

-- The filled part of the list with fewer filled, the first if equal; nothing if a length passes its list.
unfoldable pub shorter_of : (first second : List ℕ) → (in_first in_second : ℕ) → List ℕ
shorter_of first second in_first in_second =
    cond (ltb (length first) in_first) []
    (cond (ltb (length second) in_second) [] (cond (ltb in_second in_first) (take in_second second) (take in_first first)))

-- What the copying call returns, and what the row lent for the part holds afterwards.
pub record LeftPart : Type 0 where
  pub part : Part
  pub row : List ℕ

-- The same, from its parts.
abbrev pub left_part : Part → (row : List ℕ) → LeftPart
left_part part row = record { part = part; row = row }

-- A verdict's refusal and place, and how many numbers were copied.
abbrev pub part_with : Verdict → (filled : ℕ) → Part
part_with v filled = record { refusal = refusal_in v; place = place_in v; filled = filled }

-- A part in the first places of a row, later ones as they were; ROOM, with nothing written, where the row is too short.
unfoldable pub copied : (part row : List ℕ) → LeftPart
copied part row = cond (ltb (length row) (length part)) (left_part (part_with (refused Room 0) 0) row) (left_part (part_with no_refusal (length part)) (filled_with part row))
