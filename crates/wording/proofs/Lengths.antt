-- How many bytes a solution text has.
use Prim.Native.Nat.{ℕ, ◌+◌, ◌/◌, ◌%◌, ◌^◌, ◌<◌, ◌≤◌}
use mathlib.Core.Path.{◌≡◌, refl, ap, ◌∙◌}
use mathlib.Core.List.{List, [], ◌∷◌, ◌++◌}
use native.Mathlib.Numerals.{add-one}
use native.Mathlib.Omega.{arith}
use lib.ListN.{length, get_or, drop, length-append, drop_of_length-le}
use lib.Seq.{drop-cons}
use Rattle.table.specs.Table.{Table}
use Rattle.pen.specs.Printed.{printed}
use Rattle.pen.proofs.Digits.{printed_small, printed_large, digits_most}
use Rattle.wording.specs.Text.{line_of, flow_front, flow_lines, solution_text}

-- From 10 on a number has a digit more than a tenth of it,
pub digits_more : (n : ℕ) → 10 ≤ n → n < 2 ^ 64 → length (printed n) ≡ 1 + length (printed (n / 10))
digits_more n h fits = rw (printed_large n h fits) (omega (arith, length-append (printed (n / 10)) ((48 + n % 10) ∷ [])))

-- and below 10 one.
pub digits_one : (n : ℕ) → n < 10 → length (printed n) ≡ 1
digits_one n h = rw (printed_small n h) refl

-- An arc's line has its three numbers and five bytes more.
pub line_bytes : (tail head flow : ℕ) → length (line_of (flow_front tail head) flow) ≡ length (printed tail) + length (printed head) + length (printed flow) + 5
unfolding flow_front
line_bytes tail head flow = simp length-append (omega arith)

-- What it begins with has at most 44 bytes.
pub front_length : (tail head : ℕ) → length (flow_front tail head) ≤ 44
unfolding flow_front
front_length tail head = simp length-append (omega (arith, digits_most 20 tail, digits_most 20 head))

-- The lines from a place on: the one there, and those behind it,
pub lines_here : (tails heads flow : List ℕ) (k : ℕ) → k < length tails → k < length heads → k < length flow
    → flow_lines (drop k tails) (drop k heads) (drop k flow)
    ≡ line_of (flow_front (get_or tails k 0) (get_or heads k 0)) (get_or flow k 0) ++ flow_lines (drop (k + 1) tails) (drop (k + 1) heads) (drop (k + 1) flow)
unfolding flow_lines
lines_here tails heads flow k a b d = rw (add-one, drop-cons tails k 0 a, drop-cons heads k 0 b, drop-cons flow k 0 d) refl

-- as many bytes as both,
pub lines_count : (tails heads flow : List ℕ) (k : ℕ) → k < length tails → k < length heads → k < length flow
    → length (flow_lines (drop k tails) (drop k heads) (drop k flow))
    ≡ length (line_of (flow_front (get_or tails k 0) (get_or heads k 0)) (get_or flow k 0)) + length (flow_lines (drop (k + 1) tails) (drop (k + 1) heads) (drop (k + 1) flow))
lines_count tails heads flow k a b d =
    ap length (lines_here tails heads flow k a b d) ∙ length-append (line_of (flow_front (get_or tails k 0) (get_or heads k 0)) (get_or flow k 0)) (flow_lines (drop (k + 1) tails) (drop (k + 1) heads) (drop (k + 1) flow))

-- and past the last arc none.
pub lines_end : (tails heads flow : List ℕ) (k : ℕ) → length tails ≤ k → flow_lines (drop k tails) (drop k heads) (drop k flow) ≡ []
unfolding flow_lines
lines_end tails heads flow k h = rw (drop_of_length-le tails h) refl

-- The text has the value's digits, three bytes and the lines of the arcs.
pub text_bytes : (t : Table) (value : ℕ) (flow : List ℕ) → length (solution_text t value flow) ≡ length (printed value) + 3 + length (flow_lines t.tails t.heads flow)
unfolding solution_text
text_bytes t value flow = simp length-append (omega arith)
