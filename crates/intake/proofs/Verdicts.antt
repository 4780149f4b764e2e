-- What comes before a text is read, by each of its tests.
use Prim.Native.Nat.{ℕ, ◌<◌, ◌≤◌}
use mathlib.Core.Path.{◌≡◌, refl, sym, ap, ◌∙◌}
use mathlib.Core.Bool.{Bool, true, false, not}
use lib.Dec.{ltb}
use borrow.Author.Tests.{lt-ltb, le-ltb, ltb-false, not-false}
use Rattle.table.specs.Accepted.{Accepted}
use Rattle.table.specs.Checks.{is_fine, refuse_if, or_else, no_refusal, refused, Verdict}
use Rattle.table.specs.declared.Name.TheVariants.{Room, Long}
use Rattle.table.proofs.Accepts.{both_fine}
use Rattle.table.proofs.Faults.{passed}
use Rattle.minimums.specs.BoundedTable.{BoundedTable}
use Rattle.minimums.specs.Checks.{plain_check}
use Rattle.minimums.proofs.Accepting.{plain_accepts}
use Rattle.minimums.proofs.Order.{refuses_first, gives_way}
use Rattle.intake.specs.Verdict.{text_verdict}

-- ROOM, by the code's answer to whether there is room: refused,
pub no_room : {z w : Bool} → z ≡ w → z ≡ false → (next : Verdict) → refused Room 0 ≡ refuse_if (not w) Room 0 next
no_room is e next = rw (← is, e) refl

-- or what follows.
pub roomy : {z w : Bool} → z ≡ w → z ≡ true → {r next : Verdict} → r ≡ next → r ≡ refuse_if (not w) Room 0 next
roomy is e f = rw (← is, e) f

-- What comes before the text is read.
module _ (b : BoundedTable) (text : ℕ) (room : Bool) where
  -- LONG,
  pub text_long : 1048576 < text → refused Long 0 ≡ text_verdict b text room
  unfolding text_verdict
  text_long h = rw (lt-ltb 1048576 text h) refl

  -- and else the table's own checks, which found this.
  module _ (short : text ≤ 1048576) {found : Verdict} (checked : found ≡ plain_check b true) where
    -- They refuse,
    pub text_table : is_fine found ≡ false → found ≡ text_verdict b text room
    unfolding text_verdict
    text_table e = rw (le-ltb 1048576 text short) (refuses_first checked (refuse_if (not room) Room 0 no_refusal) e)

    -- or ROOM comes last,
    pub text_room : is_fine found ≡ true → room ≡ false → refused Room 0 ≡ text_verdict b text room
    unfolding text_verdict
    text_room e f = rw (le-ltb 1048576 text short) (gives_way checked e (no_room refl f no_refusal))

    -- or nothing is refused.
    pub text_fine : is_fine found ≡ true → room ≡ true → no_refusal ≡ text_verdict b text room
    unfolding text_verdict
    text_fine e f = rw (le-ltb 1048576 text short) (gives_way checked e (roomy refl f refl))

-- Where nothing is refused before the text is read,
module _ (b : BoundedTable) (text : ℕ) (room : Bool) (v : Verdict) (verdict : v ≡ text_verdict b text room) (fine : v ≡ no_refusal) where
  -- it is not too long,
  pub text_not_long : text ≤ 1048576
  unfolding text_verdict
  text_not_long =
      let others = or_else (plain_check b true) (refuse_if (not room) Room 0 no_refusal) in
      ltb-false 1048576 text (passed (ltb 1048576 text) Long 0 others (ap is_fine (sym verdict ∙ fine))).0

  -- the table is accepted, and there was room.
  pub text_accepts : Accepted b.table × (room ≡ true)
  unfolding text_verdict
  text_accepts =
      let last = refuse_if (not room) Room 0 no_refusal in
      let (short, more) = passed (ltb 1048576 text) Long 0 (or_else (plain_check b true) last) (ap is_fine (sym verdict ∙ fine)) in
      let (table, rest) = both_fine (plain_check b true) last more in
      ((plain_accepts b true table).0, not-false room (passed (not room) Room 0 no_refusal rest).0)
