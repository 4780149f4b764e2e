-- What the promise leaves open: what solving's does, and nothing else; and ROWS, number 2, is never given.
use Rattle.std.specs.Prelude.{Ok, Err}
use Prim.Native.Nat.{ℕ}
use mathlib.Core.Path.{◌≡◌, refl, sym, ap, subst, ◌∙◌}
use mathlib.Core.Bool.{Bool, true, false}
use mathlib.Core.List.{List}
use native.Mathlib.Omega.{arith}
use lib.ListN.{length}
use Rattle.table.specs.Table.{Table, arcs}
use Rattle.minimums.specs.BoundedTable.{BoundedTable, record_table}
use Rattle.minimums.specs.Checks.{plain}
use Rattle.minimums.specs.declared.Arc.{Arc}
use Rattle.minimums.proofs.Accepting.{plain_check_lem}
use Rattle.minimums.proofs.Rowless.{Rowless, records_rowless}
use Rattle.solver.specs.Solving.{has_room, answer_with, solved, solving_as, solving_verdict, solving}
use Rattle.planner.specs.Solving.{SignedLeft, impossible, found, BoundingAs, bounded_verdict, SolvesAs}
use Rattle.planner.specs.Same.{Same}
use Rattle.planner.proofs.Unique.{solve_unique}
use Rattle.records.specs.Solve.{Promised}
use Rattle.table.specs.Checks.{Verdict}

-- Two results that meet the promise have the same answer and rows, but for the flows where a minimum is above 0.
pub records_unique : (b : BoundedTable) (stamp : ℕ) (flow side work : List ℕ) (l k : SignedLeft)
    → Promised b stamp flow side work l → Promised b stamp flow side work k → Same b l k
records_unique b stamp flow side work l k p q = solve_unique b stamp flow side work l k p.0 q.0

-- By a verdict that is not ROWS document 01's answer is not,
answer_rowless : (v : Verdict) (t : Table) (stamp : ℕ) (flow side work : List ℕ) → Rowless v → (solving_as v t stamp flow side work).answer.refusal ≡ 2 → ⊥
unfolding solving_as solved answer_with
answer_rowless (Ok _) t stamp flow side work other e = omega arith
answer_rowless (Err why) t stamp flow side work other e = other e

module _ (b : BoundedTable) (stamp : ℕ) (flow side work : List ℕ) where
  -- nor is that of a table with a minimum above 0.
  bounding_rowless : (v : Verdict) (l : SignedLeft) → Rowless v → BoundingAs v b stamp flow side work l → l.answer.refusal ≡ 2 → ⊥
  bounding_rowless (Ok _) l other (impossible p) e = omega arith
  bounding_rowless (Ok _) l other (found value flow' side' holds best) e = omega arith
  bounding_rowless (Err why) l other so e = other (sym (ap (λ (x : SignedLeft). x.answer.refusal) so) ∙ e)

  -- By whether all minimums are 0.
  by_plain : (p : Bool) (l : SignedLeft) → p ≡ plain b → Rowless (bounded_verdict b (length flow) (length side) (length work)) → SolvesAs p b stamp flow side work l
      → l.answer.refusal ≡ 2 → ⊥
  unfolding solving
  by_plain true l q other so e =
      answer_rowless (solving_verdict b.table (length flow) (length side) (length work)) b.table stamp flow side work
      (subst Rowless (plain_check_lem b (has_room b.table.nodes (arcs b.table) (length flow) (length side) (length work)) (sym q)) other)
      (sym (ap (λ (x : SignedLeft). x.answer.refusal) so) ∙ e)
  by_plain false l q other so e = bounding_rowless (bounded_verdict b (length flow) (length side) (length work)) l other so e

-- Arc records are never refused as ROWS.
pub records_never_rows : (n s t : ℕ) (arcs : List Arc) (stamp : ℕ) (flow side work : List ℕ) (l : SignedLeft)
    → Promised (record_table n s t arcs) stamp flow side work l → l.answer.refusal ≡ 2 → ⊥
records_never_rows n s t arcs stamp flow side work l p e =
    by_plain (record_table n s t arcs) stamp flow side work (plain (record_table n s t arcs)) l refl (records_rowless n s t arcs _) p.0 e
