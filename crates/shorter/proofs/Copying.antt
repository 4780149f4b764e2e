-- What copying a part leaves, by whether the row has room.
use Prim.Native.Nat.{ℕ, ◌≤◌, ◌<◌}
use mathlib.Core.Path.{◌≡◌, ap, ◌∙◌}
use mathlib.Core.List.{List}
use native.Mathlib.Omega.{arith}
use borrow.Author.Tests.{lt-ltb, le-ltb, ltb-false}
use lib.Dec.{ltb}
use lib.ListN.{length}
use lib.Seq.{sets, length-take-le}
use Rattle.rows.proofs.Sums.{by_test}
use Rattle.rows.proofs.Storing.{sets_front}
use Rattle.table.specs.Refusals.{number_of}
use Rattle.table.specs.declared.Name.TheVariants.{Room}
use Rattle.shorter.specs.Shorter.{shorter_of, left_part, part_with, copied}
use Rattle.table.specs.Checks.{no_refusal}

module _ (numbers row : List ℕ) where
  -- It has not: ROOM, and the row is as it was.
  pub copied_short : (number : ℕ) → number ≡ number_of Room → length row < length numbers
      → left_part (record { refusal = number; place = 0; filled = 0 }) row ≡ copied numbers row
  unfolding copied
  copied_short number e short = rw (lt-ltb _ _ short, e)

  -- It has: the numbers are in front of the later places.
  pub copied_whole : (after : List ℕ) → length numbers ≤ length row → after ≡ sets row 0 numbers
      → left_part (part_with no_refusal (length numbers)) after ≡ copied numbers row
  unfolding copied
  copied_whole after room e = rw (le-ltb _ _ room) (ap (left_part (part_with no_refusal (length numbers))) (e ∙ sets_front row numbers room))

-- The shorter part has no more numbers than were said to be filled.
pub shorter_few : (first second : List ℕ) (in_first in_second most : ℕ) → in_first < most → in_second < most
    → length (shorter_of first second in_first in_second) < most
unfolding shorter_of
shorter_few first second in_first in_second most a b =
    by_test (ltb (length first) in_first) (λ e. rw e (omega arith))
    (λ e.
    by_test (ltb (length second) in_second) (λ f. rw (e, f) (omega arith))
    (λ f.
    by_test (ltb in_second in_first)
    (λ g. rw (e, f, g) (omega (arith, length-take-le in_second second (ltb-false _ _ f))))
    (λ g. rw (e, f, g) (omega (arith, length-take-le in_first first (ltb-false _ _ e))))))
