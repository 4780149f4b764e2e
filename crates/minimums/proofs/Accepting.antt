-- What a table has that no check of a call without minimums refuses: document 01's checks refuse nothing, and all minimums are 0.
use Rattle.std.specs.Prelude.{Ok, Err}
use mathlib.Core.Path.{◌≡◌, refl, sym, ap, ◌∙◌}
use mathlib.Core.Bool.{Bool, true, ◌&&◌, false≢true}
use native.Mathlib.Omega.{arith}
use borrow.Author.Tests.{eq-eqb, eqb-true, not-false}
use lib.Dec.{eqb}
use lib.ListN.{length}
use Rattle.rows.proofs.Sums.{both_true}
use Rattle.table.specs.Table.{arcs}
use Rattle.table.specs.Checks.{is_fine, or_else, check_of, no_refusal, Verdict}
use Rattle.table.specs.Accepted.{Accepted}
use Rattle.table.proofs.Faults.{passed}
use Rattle.table.proofs.Accepts.{both_fine, check_accepts}
use Rattle.minimums.specs.BoundedTable.{BoundedTable}
use Rattle.minimums.specs.Checks.{bounded_check, all_zero, plain, plain_check, none}
use Rattle.minimums.proofs.Faults.{check_with, bounded_accepts}
use Rattle.minimums.proofs.Zeros.{all_zero_at}

-- A verdict that refuses nothing.
fine_is : (v : Verdict) → is_fine v ≡ true → v ≡ no_refusal
fine_is (Ok _) e = refl
fine_is (Err why) e = absurd (false≢true e)

-- Minimums that are all 0 change no verdict.
pub plain_check_lem : (b : BoundedTable) (room : Bool) → plain b ≡ true → bounded_check b room ≡ check_of b.table room
unfolding or_else
plain_check_lem b room e =
    let (long, zeros) = both_true (eqb (length b.minimums) (arcs b.table)) (all_zero b.minimums) e in
    sym (check_with b.table b.minimums room (eqb-true _ _ long) (none (λ k l. omega (arith, all_zero_at b.minimums zeros k))))

module _ (b : BoundedTable) (room : Bool) (passes : is_fine (plain_check b room) ≡ true) where
  -- There is a minimum for each arc, and all are 0.
  pub plain_zeros : plain b ≡ true
  plain_zeros =
      let (checked, zeros) = both_fine (bounded_check b room) _ passes in
      let (accepted, roomy) = bounded_accepts b room checked in
      ap (λ x. x && all_zero b.minimums) (eq-eqb (length b.minimums) (arcs b.table) accepted.rows.minimums_long)
      ∙ not-false (all_zero b.minimums) (passed _ _ _ _ zeros).0

  -- Document 01's checks refuse nothing,
  pub plain_fine : check_of b.table room ≡ no_refusal
  plain_fine = sym (plain_check_lem b room plain_zeros) ∙ fine_is (bounded_check b room) (both_fine (bounded_check b room) _ passes).0

  -- so the table is accepted and there was room.
  pub plain_accepts : Accepted b.table × (room ≡ true)
  plain_accepts = check_accepts b.table room (ap is_fine plain_fine)
