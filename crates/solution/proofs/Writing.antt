-- What writing returns and leaves, by each of its tests.
use Prim.Native.Nat.{ℕ, ◌<◌, ◌≤◌}
use mathlib.Core.Path.{◌≡◌, refl, sym, ap, ◌∙◌}
use mathlib.Core.Bool.{Bool, true, false, not}
use mathlib.Core.List.{List}
use native.Mathlib.Omega.{arith}
use lib.Dec.{leb}
use lib.ListN.{length}
use borrow.Author.Tests.{lt-ltb, le-ltb, ltb-false, le-leb, lt-leb, leb-true, not-false}
use Rattle.rows.proofs.Sums.{both_true}
use Rattle.table.specs.Table.{Table, arcs}
use Rattle.table.specs.Accepted.{Accepted}
use Rattle.table.specs.Checks.{is_fine, refuse_if, no_refusal, refused, Verdict}
use Rattle.table.specs.Refusals.{number_of}
use Rattle.table.specs.declared.Name.{Name}
use Rattle.table.specs.declared.Name.TheVariants.{Room, Solution}
use Rattle.table.proofs.Accepts.{both_fine}
use Rattle.table.proofs.Faults.{passed}
use Rattle.minimums.specs.BoundedTable.{BoundedTable}
use Rattle.minimums.specs.Checks.{plain_check}
use Rattle.minimums.proofs.Accepting.{plain_accepts}
use Rattle.minimums.proofs.Order.{refuses_first, gives_way}
use Rattle.intake.proofs.Verdicts.{no_room, roomy}
use Rattle.pen.specs.Wrote.{Wrote}
use Rattle.pen.proofs.Writing.{wrote_then, wrote_front}
use Rattle.wording.specs.Text.{line_of, value_front, most_value, flow_lines, solution_text}
use Rattle.solution.specs.declared.Written.{Written}
use Rattle.solution.specs.Writing.{left, written_with, has_text_room, first_above, numbers_verdict, writing_verdict, writing_as, writing}
use Rattle.solution.specs.Rows.{ArcsWith}

module _ (t : Table) (value : ℕ) (flow : List ℕ) (text : ℕ) where
  -- A short flow row has no room,
  pub flow_short : length flow < arcs t → false ≡ has_text_room t value flow text
  unfolding has_text_room
  flow_short h = rw (lt-leb (arcs t) (length flow) h) refl

  -- one that is not short is found where there is room,
  pub room_flow : {z : Bool} → z ≡ has_text_room t value flow text → z ≡ true → arcs t ≤ length flow
  unfolding has_text_room
  room_flow is held = leb-true (arcs t) (length flow) (both_true _ (leb (length (solution_text t value flow)) text) (sym is ∙ held)).0

  -- and else the text's bytes decide.
  pub flow_long : arcs t ≤ length flow → (bytes : ℕ) → bytes ≡ length (solution_text t value flow) → leb bytes text ≡ has_text_room t value flow text
  unfolding has_text_room
  flow_long h bytes e = rw (le-leb (arcs t) (length flow) h, e) refl

-- The order; `found` is what the table's own checks found.
module _ (b : BoundedTable) (value : ℕ) (flow : List ℕ) (text : ℕ) {found : Verdict} (checked : found ≡ plain_check b true) where
  -- They refuse,
  pub verdict_table : is_fine found ≡ false → found ≡ writing_verdict b value flow text
  unfolding writing_verdict
  verdict_table e = refuses_first checked (refuse_if (not (has_text_room b.table value flow text)) Room 0 (numbers_verdict b.table.capacities value flow)) e

  -- or there is no room,
  pub verdict_room : is_fine found ≡ true → {z : Bool} → z ≡ has_text_room b.table value flow text → z ≡ false → refused Room 0 ≡ writing_verdict b value flow text
  unfolding writing_verdict
  verdict_room e is short = gives_way checked e (no_room is short (numbers_verdict b.table.capacities value flow))

  -- or the numbers decide.
  pub verdict_numbers : is_fine found ≡ true → {z : Bool} → z ≡ has_text_room b.table value flow text → z ≡ true → {r : Verdict} → r ≡ numbers_verdict b.table.capacities value flow
      → r ≡ writing_verdict b value flow text
  unfolding writing_verdict
  verdict_numbers e is held same = gives_way checked e (roomy is held same)

  -- A table that passes is accepted, and a row with room for the text has a flow for each arc.
  pub table_arcs : is_fine found ≡ true → Accepted b.table
  table_arcs e = (plain_accepts b true (ap is_fine (sym checked) ∙ e)).0

-- SOLUTION; `above` is what was found of the flows.
module _ (capacities : List ℕ) (value : ℕ) (flow : List ℕ) {above : Verdict} (looked : above ≡ first_above 0 capacities flow) where
  -- A flow above its capacity,
  pub numbers_flow : is_fine above ≡ false → above ≡ numbers_verdict capacities value flow
  unfolding numbers_verdict
  numbers_flow e = refuses_first looked _ e

  -- or a value that is too large,
  pub numbers_value : is_fine above ≡ true → most_value < value → refused Solution (length capacities) ≡ numbers_verdict capacities value flow
  unfolding numbers_verdict
  numbers_value e h = gives_way looked e (rw (lt-ltb most_value value h) refl)

  -- or neither.
  pub numbers_fine : is_fine above ≡ true → value ≤ most_value → no_refusal ≡ numbers_verdict capacities value flow
  unfolding numbers_verdict
  numbers_fine e h = gives_way looked e (rw (le-ltb most_value value h) refl)

-- An accepted table has few arcs, with a head and a capacity for each.
pub accepted_arcs : (t : Table) → Accepted t → (row : List ℕ) → arcs t ≤ length row → ArcsWith t.tails t.heads row × (length t.capacities ≡ length t.tails)
accepted_arcs t ok row room =
    let long = ok.rows.capacities_long in
    (record { few = ok.rows.ends.few_arcs; heads_long = ok.rows.ends.heads_long; room = omega arith }, long)

-- What was found where nothing was refused.
pub record Writes (b : BoundedTable) (value : ℕ) (flow : List ℕ) (text : ℕ) : Type 0 where
  pub checked : is_fine (plain_check b true) ≡ true
  pub accepted : Accepted b.table
  pub room : arcs b.table ≤ length flow
  pub fits : length (solution_text b.table value flow) ≤ text
  pub none_above : is_fine (first_above 0 b.table.capacities flow) ≡ true
  pub value_fits : value ≤ most_value

-- It is all that is asked.
pub writes_fine : (b : BoundedTable) (value : ℕ) (flow : List ℕ) (text : ℕ) (v : Verdict) → v ≡ writing_verdict b value flow text → v ≡ no_refusal → Writes b value flow text
unfolding writing_verdict numbers_verdict has_text_room
writes_fine b value flow text v e f =
    let (table, more) = both_fine (plain_check b true) _ (ap is_fine (sym e ∙ f)) in
    let (room, numbers) = passed _ _ _ _ more in
    let (x, y) = both_true _ _ (not-false _ room) in
    let (above, last) = both_fine (first_above 0 b.table.capacities flow) _ numbers in
    record {
      checked = table;
      accepted = (plain_accepts b true table).0;
      room = leb-true _ _ x;
      fits = leb-true _ _ y;
      none_above = above;
      value_fits = ltb-false _ _ (passed _ _ _ _ last).0;
    }

module _ (b : BoundedTable) (value : ℕ) (flow text : List ℕ) (v : Verdict) (verdict : v ≡ writing_verdict b value flow (length text)) where
  -- A refusal leaves the row as it was,
  pub writing_refused : (written : Written) (name : Name) (place : ℕ) → v ≡ refused name place → written ≡ written_with (number_of name) place 0
      → left written text ≡ writing b value flow text
  unfolding writing writing_as
  writing_refused written name place e w = rw (← verdict, e, w) refl

  -- and else the text stands at its front.
  pub writing_fine : (lines end : ℕ) (first text' : List ℕ) → v ≡ no_refusal → Wrote text 0 (line_of value_front value) first lines
      → Wrote first lines (flow_lines b.table.tails b.table.heads flow) text' end → left (written_with 0 0 end) text' ≡ writing b value flow text
  unfolding writing writing_as solution_text
  writing_fine lines end first text' e p q =
      let (place, held) = wrote_front (wrote_then p q) (writes_fine b value flow (length text) v verdict e).fits in
      rw (← verdict, e, place, held) refl
