-- Laws of little-endian numbers in rows: as the library reads and writes them, and rows of numbers written one after the other.
use Prim.Native.Nat.{ℕ, zero, suc, ◌+◌, ◌-◌, ◌*◌, ◌/◌, ◌%◌, ◌≤◌, ◌<◌}
use mathlib.Core.Path.{◌≡◌, refl, sym, ap, ◌∙◌}
use mathlib.Core.List.{List, [], ◌∷◌, ◌++◌, append_assoc, append-nil}
use native.Mathlib.Nat.{mul-zero, mul-suc}
use native.Mathlib.Numerals.{add-one}
use native.Mathlib.Omega.{arith}
use lib.ListN.{length, get_or, take, drop, length-append, length-drop}
use lib.Seq.{take-length, take-suc, take_at, drop_at, drop-drop, take-add, length-take-le}
use Rattle.rows.specs.Row.{part}
use Rattle.std.specs.Int.{w32, w64, from_le_bytes, to_le_bytes}
use Rattle.parts.specs.Placed.{placed}
use Rattle.little.specs.Little.{number, bytes_of, bytes_of_all}

-- The library reads four bytes so,
pub four_read : (row : List ℕ) → length row ≡ 4 → from_le_bytes w32 row ≡ number row
unfolding number
four_read [] e = absurd (omega arith)
four_read (a ∷ []) e = absurd (omega arith)
four_read (a ∷ b ∷ []) e = absurd (omega arith)
four_read (a ∷ b ∷ c ∷ []) e = absurd (omega arith)
four_read (a ∷ b ∷ c ∷ d ∷ []) e = omega arith
four_read (a ∷ b ∷ c ∷ d ∷ x ∷ row) e = absurd (omega arith)

-- and eight,
pub eight_read : (row : List ℕ) → length row ≡ 8 → from_le_bytes w64 row ≡ number row
unfolding number
eight_read [] e = absurd (omega arith)
eight_read (a ∷ []) e = absurd (omega arith)
eight_read (a ∷ b ∷ []) e = absurd (omega arith)
eight_read (a ∷ b ∷ c ∷ []) e = absurd (omega arith)
eight_read (a ∷ b ∷ c ∷ d ∷ []) e = absurd (omega arith)
eight_read (a ∷ b ∷ c ∷ d ∷ f ∷ []) e = absurd (omega arith)
eight_read (a ∷ b ∷ c ∷ d ∷ f ∷ g ∷ []) e = absurd (omega arith)
eight_read (a ∷ b ∷ c ∷ d ∷ f ∷ g ∷ h ∷ []) e = absurd (omega arith)
eight_read (a ∷ b ∷ c ∷ d ∷ f ∷ g ∷ h ∷ i ∷ []) e = omega arith
eight_read (a ∷ b ∷ c ∷ d ∷ f ∷ g ∷ h ∷ i ∷ x ∷ row) e = absurd (omega arith)

-- and writes four
pub four_written : (x : ℕ) → to_le_bytes w32 x ≡ bytes_of 4 x
unfolding bytes_of
four_written x =
    let b : x / 256 / 256 ≡ x / 65536 = omega arith in
    let c : x / 65536 / 256 ≡ x / 16777216 = omega arith in
    rw (b, c) refl

-- and eight.
pub eight_written : (x : ℕ) → to_le_bytes w64 x ≡ bytes_of 8 x
unfolding bytes_of
eight_written x =
    let b : x / 256 / 256 ≡ x / 65536 = omega arith in
    let c : x / 65536 / 256 ≡ x / 16777216 = omega arith in
    let d : x / 16777216 / 256 ≡ x / 4294967296 = omega arith in
    let f : x / 4294967296 / 256 ≡ x / 1099511627776 = omega arith in
    let g : x / 1099511627776 / 256 ≡ x / 281474976710656 = omega arith in
    let h : x / 281474976710656 / 256 ≡ x / 72057594037927936 = omega arith in
    rw (b, c, d, f, g, h) refl

-- ---- rows of numbers

-- There are so many bytes for each number.
pub length_bytes : (width x : ℕ) → length (bytes_of width x) ≡ width
unfolding bytes_of
length_bytes zero x = refl
length_bytes (suc k) x = ap suc (length_bytes k (x / 256))

length_all : (width : ℕ) (xs : List ℕ) → length (bytes_of_all width xs) ≡ width * length xs
unfolding bytes_of_all
length_all width [] = sym (mul-zero width)
length_all width (x ∷ xs) =
    length-append (bytes_of width x) (bytes_of_all width xs) ∙ omega (arith, length_bytes width x, length_all width xs, mul-suc width (length xs))

-- One number more.
all_snoc : (width : ℕ) (xs : List ℕ) (x : ℕ) → bytes_of_all width (xs ++ (x ∷ [])) ≡ bytes_of_all width xs ++ bytes_of width x
unfolding bytes_of_all
all_snoc width [] x = append-nil (bytes_of width x)
all_snoc width (y ∷ xs) x = ap (λ (l : List ℕ). bytes_of width y ++ l) (all_snoc width xs x) ∙ sym (append_assoc (bytes_of width y) (bytes_of_all width xs) (bytes_of width x))

module _ (width : ℕ) (numbers old : List ℕ) where
  -- A row of bytes with the first k numbers in front.
  abbrev pub written : ℕ → List ℕ
  written k = bytes_of_all width (take k numbers) ++ drop (width * k) old

  -- With none it is as it was,
  pub written_none : old ≡ written 0
  unfolding bytes_of_all
  written_none = rw (mul-zero width)

  -- with all of them they stand in front,
  pub written_all : (k : ℕ) → k ≡ length numbers → written k ≡ bytes_of_all width numbers ++ drop (width * length numbers) old
  written_all k e = rw (e, take-length numbers)

  -- and one number more goes behind those in front.
  pub written_next : (k x : ℕ) (row : List ℕ) → k < length numbers → x ≡ get_or numbers k 0 → row ≡ written k
      → placed (width * k) (width * k + width) (bytes_of width x) row ≡ written (k + 1)
  written_next k x row inside is same =
      ap (placed (width * k) (width * k + width) (bytes_of width x)) same
      ∙ rw (front, behind, is)
      (sym (rw (add-one k, take-suc numbers k 0 inside, all_snoc, mul-suc width k) (append_assoc (bytes_of_all width (take k numbers)) (bytes_of width (get_or numbers k 0)) (drop (width * k + width) old))))
    where
      size : length (bytes_of_all width (take k numbers)) ≡ width * k
      size = length_all width (take k numbers) ∙ ap (λ (n : ℕ). width * n) (length-take-le k numbers (omega arith))

      front : take (width * k) (written k) ≡ bytes_of_all width (take k numbers)
      front = take_at (bytes_of_all width (take k numbers)) (drop (width * k) old) (width * k) size

      behind : drop (width * k + width) (written k) ≡ drop (width * k + width) old
      behind =
          sym (drop-drop width (width * k) (written k))
          ∙ ap (drop width) (drop_at (bytes_of_all width (take k numbers)) (drop (width * k) old) (width * k) size)
          ∙ drop-drop width (width * k) old

-- The bytes of a number made of two halves.
halves : (low high : ℕ) → low < 4294967296 → bytes_of 8 (low + 4294967296 * high) ≡ bytes_of 4 low ++ bytes_of 4 high
unfolding bytes_of
halves low high small =
    let b : (low + 4294967296 * high) / 256 ≡ low / 256 + 16777216 * high = omega arith in
    let c : (low / 256 + 16777216 * high) / 256 ≡ low / 256 / 256 + 65536 * high = omega arith in
    let d : (low / 256 / 256 + 65536 * high) / 256 ≡ low / 256 / 256 / 256 + 256 * high = omega arith in
    let top : low / 256 / 256 / 256 < 256 = omega arith in
    let rest : (low / 256 / 256 / 256 + 256 * high) / 256 ≡ high = omega arith in
    let a' : (low + 4294967296 * high) % 256 ≡ low % 256 = omega arith in
    let b' : (low / 256 + 16777216 * high) % 256 ≡ low / 256 % 256 = omega arith in
    let c' : (low / 256 / 256 + 65536 * high) % 256 ≡ low / 256 / 256 % 256 = omega arith in
    let d' : (low / 256 / 256 / 256 + 256 * high) % 256 ≡ low / 256 / 256 / 256 % 256 = omega arith in
    rw (b, c, d, rest, a', b', c', d')

-- The eight bytes of a number are the four of its lower half and the four of its upper half,
pub eight_bytes : (x : ℕ) → bytes_of 8 x ≡ bytes_of 4 (x % 4294967296) ++ bytes_of 4 (x / 4294967296)
eight_bytes x = ap (bytes_of 8) split ∙ halves (x % 4294967296) (x / 4294967296) (omega arith)
  where
    split : x ≡ x % 4294967296 + 4294967296 * (x / 4294967296)
    split = omega arith

-- and four bytes written behind four are eight.
pub placed_twice : (at : ℕ) (row low high : List ℕ) → at + 8 ≤ length row → length low ≡ 4
    → placed (at + 4) (at + 4 + 4) high (placed at (at + 4) low row) ≡ placed at (at + 8) (low ++ high) row
placed_twice at row low high inside four =
    let end : at + 4 + 4 ≡ at + 8 = omega arith in
    rw (front, behind, end, append_assoc (take at row) low (high ++ drop (at + 8) row), append_assoc low high (drop (at + 8) row))
  where
    size : length (take at row ++ low) ≡ at + 4
    size = length-append (take at row) low ∙ omega (arith, length-take-le at row (omega arith), four)

    joined : placed at (at + 4) low row ≡ (take at row ++ low) ++ drop (at + 4) row
    joined = sym (append_assoc (take at row) low (drop (at + 4) row))

    front : take (at + 4) (placed at (at + 4) low row) ≡ take at row ++ low
    front = ap (take (at + 4)) joined ∙ take_at (take at row ++ low) (drop (at + 4) row) (at + 4) size

    behind : drop (at + 4 + 4) (placed at (at + 4) low row) ≡ drop (at + 4 + 4) row
    behind =
        sym (drop-drop 4 (at + 4) (placed at (at + 4) low row))
        ∙ ap (drop 4) (ap (drop (at + 4)) joined ∙ drop_at (take at row ++ low) (drop (at + 4) row) (at + 4) size)
        ∙ drop-drop 4 (at + 4) row

-- Four bytes and more.
four_and_more : (row more : List ℕ) → length row ≡ 4 → number (row ++ more) ≡ number row + 4294967296 * number more
unfolding number
four_and_more [] more e = absurd (omega arith)
four_and_more (a ∷ []) more e = absurd (omega arith)
four_and_more (a ∷ b ∷ []) more e = absurd (omega arith)
four_and_more (a ∷ b ∷ c ∷ []) more e = absurd (omega arith)
four_and_more (a ∷ b ∷ c ∷ d ∷ []) more e = omega arith
four_and_more (a ∷ b ∷ c ∷ d ∷ x ∷ row) more e = absurd (omega arith)

-- Two 32-bit numbers side by side are one of 64 bits.
pub eight_number : (row : List ℕ) (at : ℕ) → at + 8 ≤ length row → number (part at (at + 8) row) ≡ number (part at (at + 4) row) + 4294967296 * number (part (at + 4) (at + 4 + 4) row)
eight_number row at inside =
    let eight : (at + 8) - at ≡ 4 + 4 = omega arith in
    let first : (at + 4) - at ≡ 4 = omega arith in
    let second : (at + 4 + 4) - (at + 4) ≡ 4 = omega arith in
    rw (eight, first, second, take-add 4 4 (drop at row), drop-drop 4 at row)
    (four_and_more (take 4 (drop at row)) (take 4 (drop (at + 4) row)) (length-take-le 4 (drop at row) (omega (arith, length-drop at row))))
