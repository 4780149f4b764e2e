-- What the promises leave open: nothing. Two results that meet one promise are equal.
use Prim.Native.Nat.{ℕ, ◌+◌}
use mathlib.Core.Path.{◌≡◌, sym, ◌∙◌}
use mathlib.Core.Bool.{Bool}
use mathlib.Core.List.{List}
use lib.ListN.{length, drop}
use Rattle.std.specs.Prelude.{Option}
use Rattle.scan.specs.Parts.{up_to, begins_with, is_these, fields}
use Rattle.scan.specs.Fields.{field_at, number_at, is_letter}
use Rattle.scan.specs.Numbers.{number_in}

-- Where a byte stands next.
pub find_unique : (bytes : List ℕ) (sep from a b : ℕ) → a ≡ from + up_to sep (drop from bytes) → b ≡ from + up_to sep (drop from bytes) → a ≡ b
find_unique bytes sep from a b p q = p ∙ sym q

-- Whether bytes begin with these.
pub begins_with_unique : (these bytes : List ℕ) (a b : Bool) → a ≡ begins_with these bytes → b ≡ begins_with these bytes → a ≡ b
begins_with_unique these bytes a b p q = p ∙ sym q

-- How many fields a line has,
pub field_count_unique : (line : List ℕ) (a b : ℕ) → a ≡ length (fields line) → b ≡ length (fields line) → a ≡ b
field_count_unique line a b p q = p ∙ sym q

-- the field at a place,
pub field_unique : (line : List ℕ) (k : ℕ) (a b : List ℕ) → a ≡ field_at line k → b ≡ field_at line k → a ≡ b
field_unique line k a b p q = p ∙ sym q

-- the number there,
pub number_at_unique : (line : List ℕ) (k : ℕ) (a b : Option ℕ) → a ≡ number_at line k → b ≡ number_at line k → a ≡ b
number_at_unique line k a b p q = p ∙ sym q

-- and whether it is a letter.
pub has_letter_unique : (line : List ℕ) (k letter : ℕ) (a b : Bool) → a ≡ is_letter letter (field_at line k) → b ≡ is_letter letter (field_at line k) → a ≡ b
has_letter_unique line k letter a b p q = p ∙ sym q

-- Whether a field is these fixed bytes.
pub has_bytes_unique : (line : List ℕ) (k : ℕ) (these : List ℕ) (a b : Bool) → a ≡ is_these these (field_at line k) → b ≡ is_these these (field_at line k) → a ≡ b
has_bytes_unique line k these a b p q = p ∙ sym q

-- The number that a field says.
pub read_number_unique : (field : List ℕ) (a b : Option ℕ) → a ≡ number_in field → b ≡ number_in field → a ≡ b
read_number_unique field a b p q = p ∙ sym q
