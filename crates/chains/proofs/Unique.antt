-- What the promise leaves open: nothing.
use Rattle.std.specs.Prelude.{Ok, Err}
use Prim.Native.Nat.{ℕ}
use mathlib.Core.Path.{◌≡◌, refl, ap, sym, ◌∙◌}
use mathlib.Core.List.{List}
use lib.ListN.{length}
use Rattle.table.specs.Table.{Table}
use Rattle.minimums.specs.BoundedTable.{BoundedTable}
use Rattle.solver.specs.declared.Answer.{Answer}
use Rattle.solver.specs.Solving.{solved}
use Rattle.chains.specs.Listing.{Shown, listing_verdict, listing_as, listing}
use Rattle.table.specs.Checks.{Verdict}

-- Two results that meet the promise are equal, the lent rows too.
pub list_unique : (b : BoundedTable) (stamp : ℕ) (flow side work list : List ℕ) (l r : Shown)
    → l ≡ listing b stamp flow side work list → r ≡ listing b stamp flow side work list → l ≡ r
list_unique b stamp flow side work list l r p q = p ∙ sym q

-- What is returned: the answer, and how many numbers were filled.
abbrev returned : Shown → Answer × ℕ
returned s = (s.solving.answer, s.filled)

-- It depends on the verdict and the table alone,
by_verdict : (v : Verdict) (t : Table) (stamp : ℕ) (flow side work list flow_too side_too work_too list_too : List ℕ)
    → returned (listing_as v t stamp flow side work list) ≡ returned (listing_as v t stamp flow_too side_too work_too list_too)
unfolding listing_as solved
by_verdict (Ok _) t stamp flow side work list flow_too side_too work_too list_too = refl
by_verdict (Err why) t stamp flow side work list flow_too side_too work_too list_too = refl

-- so what stood in the lent rows before does not matter to it: only their lengths do.
pub old_rows_idle : (b : BoundedTable) (stamp : ℕ) (flow side work list flow_too side_too work_too list_too : List ℕ)
    → length flow ≡ length flow_too → length side ≡ length side_too → length work ≡ length work_too → length list ≡ length list_too
    → returned (listing b stamp flow side work list) ≡ returned (listing b stamp flow_too side_too work_too list_too)
unfolding listing
old_rows_idle b stamp flow side work list flow_too side_too work_too list_too p q r u =
    by_verdict (listing_verdict b (length flow) (length side) (length work) (length list)) b.table stamp flow side work list flow_too side_too work_too list_too
    ∙ rw (p, q, r, u) refl
