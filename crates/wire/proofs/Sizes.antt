-- What the checks of sizes give: limits, the rows that arc bytes are read into, and which refusals come before the arcs.
use Prim.Native.Nat.{ℕ, ◌+◌, ◌*◌, ◌/◌, ◌%◌, ◌^◌, ◌≤◌, ◌<◌}
use mathlib.Core.Path.{◌≡◌, refl, sym, ap, ◌∙◌}
use mathlib.Core.Bool.{Bool, true, false}
use mathlib.Core.List.{List, ◌++◌}
use native.Mathlib.Omega.{arith}
use borrow.Author.Tests.{leb-true, ne_eqb}
use lib.ListN.{length, take, drop}
use lib.Seq.{take_at}
use Rattle.rows.specs.Row.{by_place}
use Rattle.rows.proofs.Rows.{length_places}
use Rattle.rows.proofs.Sums.{both_true}
use Rattle.table.specs.Table.{Table, table_of}
use Rattle.table.specs.Checks.{is_fine, outside, differ, sizes_of, or_else, in_order, check_of, no_refusal, refused, Verdict}
use Rattle.table.specs.declared.Name.{Name}
use Rattle.table.specs.declared.Name.TheVariants.{Rows, Room}
use Rattle.table.proofs.Accepts.{sizes_fine}
use Rattle.little.specs.Little.{number32}
use Rattle.wire.specs.Rows.{arc_row, arc_table, returned_of, has_byte_room}

-- Sizes within the limits.
pub record Sized (n tails heads capacities : ℕ) : Type 0 where
  pub few_nodes : n ≤ 512
  pub few_arcs : capacities ≤ 4096
  pub tails_same : tails ≡ capacities
  pub heads_same : heads ≡ capacities

-- Sizes that are not refused are within them.
pub sized : (n tails heads capacities s t : ℕ) → sizes_of n tails heads capacities s t ≡ no_refusal → Sized n tails heads capacities
sized n tails heads capacities s t e =
    let good = sizes_fine n tails heads capacities s t (ap is_fine e) in
    record {
      few_nodes = good.nodes.1;
      few_arcs = omega (arith, good.few, good.capacities_same);
      tails_same = sym good.capacities_same;
      heads_same = good.heads_same ∙ sym good.capacities_same;
    }

-- The sizes of a table.
abbrev pub sizes : Table → Verdict
sizes t = sizes_of t.nodes (length t.tails) (length t.heads) (length t.capacities) t.source t.sink

-- A refusal of sizes comes before all others.
pub sizes_first : (t : Table) (room : Bool) (name : Name) (place : ℕ) → sizes t ≡ refused name place → check_of t room ≡ refused name place
unfolding in_order or_else
sizes_first t room name place e = rw e

-- ROOM comes next.
pub room_next : (t : Table) (room : Bool) → sizes t ≡ no_refusal → room ≡ false → check_of t room ≡ refused Room 0
unfolding in_order or_else
room_next t room e f = rw (e, f)

-- ---- the rows of arc bytes

-- How many numbers each row of arc bytes has.
pub arc_length : (from count : ℕ) (bytes : List ℕ) → length (arc_row from count bytes) ≡ count
arc_length from count bytes = length_places (λ k. number32 bytes (12 * k + from)) count

-- The sizes that are looked at are those of the table of arc bytes.
pub arc_sizes : (n s t : ℕ) (bytes : List ℕ) → sizes_of n ((length bytes + 11) / 12) (length bytes / 12) (length bytes / 12) s t ≡ sizes (arc_table n s t bytes)
arc_sizes n s t bytes =
    rw (arc_length 0 ((length bytes + 11) / 12) bytes, arc_length 4 (length bytes / 12) bytes, arc_length 8 (length bytes / 12) bytes)

-- A length that is no multiple of 12 is ROWS, right after NODES;
pub broken_is_rows : (n s t : ℕ) (bytes : List ℕ) → outside 2 512 n ≡ false → (length bytes % 12 ≡ 0 → ⊥) → sizes (arc_table n s t bytes) ≡ refused Rows 0
unfolding sizes_of differ
broken_is_rows n s t bytes nodes broken =
    let apart : (length bytes + 11) / 12 ≡ length bytes / 12 → ⊥ = λ e. broken (omega arith) in
    rw (arc_length 0 ((length bytes + 11) / 12) bytes, arc_length 4 (length bytes / 12) bytes, nodes, ne_eqb ((length bytes + 11) / 12) (length bytes / 12) apart)

-- with a multiple of 12 the three rows have one length, and ROWS never comes.
pub whole_is_even : (n s t : ℕ) (bytes : List ℕ) → length bytes % 12 ≡ 0
    → (length (arc_table n s t bytes).tails ≡ length bytes / 12) × (length (arc_table n s t bytes).heads ≡ length bytes / 12) × (length (arc_table n s t bytes).capacities ≡ length bytes / 12)
whole_is_even n s t bytes whole =
    (arc_length 0 ((length bytes + 11) / 12) bytes ∙ omega arith, arc_length 4 (length bytes / 12) bytes, arc_length 8 (length bytes / 12) bytes)

-- The first m places of a column that was read.
pub column_front : (f : ℕ → ℕ) (m : ℕ) (row old : List ℕ) → row ≡ by_place f m ++ drop m old → take m row ≡ by_place f m
column_front f m row old e = ap (take m) e ∙ take_at (by_place f m) (drop m old) m (length_places f m)

-- The table of three columns that were read is that of the arc bytes.
pub columns_table : (n s t m : ℕ) (bytes : List ℕ) → m ≡ length bytes / 12 → (length bytes + 11) / 12 ≡ length bytes / 12 → {tails heads capacities : List ℕ}
    → tails ≡ arc_row 0 m bytes → heads ≡ arc_row 4 m bytes → capacities ≡ arc_row 8 m bytes → table_of n s t tails heads capacities ≡ arc_table n s t bytes
columns_table n s t m bytes e f p q r = rw (p, q, r, f, e)

-- ---- room, and the number returned

-- Room, taken apart.
pub roomy : (need n m flow side result : ℕ) → has_byte_room need n m flow side result ≡ true → (4 * m ≤ flow) × (n ≤ side) × (need ≤ result)
unfolding has_byte_room
roomy need n m flow side result e =
    let (a, rest) = both_true _ _ e in
    let (b, c) = both_true _ _ rest in
    (leb-true _ _ a, leb-true _ _ b, leb-true _ _ c)

-- A short result row has none.
pub short_result : (need n m flow side result : ℕ) → result < need → has_byte_room need n m flow side result ≡ false
short_result need n m flow side result short = go (has_byte_room need n m flow side result) refl
  where
    go : (b : Bool) → has_byte_room need n m flow side result ≡ b → b ≡ false
    go true e = absurd (omega (arith, (roomy need n m flow side result e).2))
    go false e = refl

-- Who gets the number returned has the refusal in its upper half,
pub upper_half : (refusal place : ℕ) → place < 2 ^ 32 → returned_of refusal place / 2 ^ 32 ≡ refusal
upper_half refusal place small = omega arith

-- and the place in its lower half.
pub lower_half : (refusal place : ℕ) → place < 2 ^ 32 → returned_of refusal place % 2 ^ 32 ≡ place
lower_half refusal place small = omega arith
