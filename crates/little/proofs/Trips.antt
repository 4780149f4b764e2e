-- What was written is read back, and what was read is written back: for numbers that fit, and bytes below 256.
use Prim.Native.Nat.{ℕ, suc, ◌+◌, ◌*◌, ◌/◌, ◌%◌, ◌^◌, ◌≤◌, ◌<◌}
use mathlib.Core.Path.{◌≡◌, refl, ap, ◌∙◌}
use mathlib.Core.List.{List, [], ◌∷◌}
use native.Mathlib.Omega.{arith}
use lib.ListN.{length, get_or}
use Rattle.rows.specs.Row.{part}
use Rattle.parts.specs.Placed.{placed}
use Rattle.parts.proofs.Parts.{placed_part}
use Rattle.little.specs.Little.{number, bytes_of, number32}
use Rattle.little.proofs.Bytes.{length_bytes}

-- A 32-bit number and its four bytes.
pub number_of_four : (x : ℕ) → x < 2 ^ 32 → number (bytes_of 4 x) ≡ x
unfolding number bytes_of
number_of_four x small = omega arith

-- A 64-bit number and its eight bytes.
pub number_of_eight : (x : ℕ) → x < 2 ^ 64 → number (bytes_of 8 x) ≡ x
unfolding number bytes_of
number_of_eight x small = omega arith

-- A number that was written at a place is read there,
pub get_after_put32 : (row : List ℕ) (at x : ℕ) → at + 4 ≤ length row → x < 2 ^ 32 → number32 (placed at (at + 4) (bytes_of 4 x) row) at ≡ x
get_after_put32 row at x inside small =
    ap number (placed_part at (at + 4) row (bytes_of 4 x) (omega arith) inside (length_bytes 4 x ∙ omega arith)) ∙ number_of_four x small

-- with 64 bits too.
pub get_after_put64 : (row : List ℕ) (at x : ℕ) → at + 8 ≤ length row → x < 2 ^ 64 → number (part at (at + 8) (placed at (at + 8) (bytes_of 8 x) row)) ≡ x
get_after_put64 row at x inside small =
    ap number (placed_part at (at + 8) row (bytes_of 8 x) (omega arith) inside (length_bytes 8 x ∙ omega arith)) ∙ number_of_eight x small

-- Bytes, and those of their number.
pub bytes_of_number : (row : List ℕ) → ((k : ℕ) → k < length row → get_or row k 0 < 256) → bytes_of (length row) (number row) ≡ row
unfolding number bytes_of
bytes_of_number [] small = refl
bytes_of_number (b ∷ row) small =
    let byte : b < 256 = small 0 (omega arith) in
    let low : (b + 256 * number row) % 256 ≡ b = omega arith in
    let high : (b + 256 * number row) / 256 ≡ number row = omega arith in
    rw (low, high, bytes_of_number row (λ k l. small (suc k) (omega arith)))
