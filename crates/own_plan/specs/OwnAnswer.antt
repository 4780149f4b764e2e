-- Document 02, CR 1 and CR 8 together: an answer written out, and what was written checked.
use Rattle.std.specs.Prelude.{ℕ, ◌≡◌, List, take}
use Rattle.table.specs.Refusals.{number_of}
use Rattle.table.specs.declared.Name.TheVariants.{Solution}
use Rattle.minimums.specs.BoundedTable.{BoundedTable}
use Rattle.solution.specs.Writing.{writing}
use Rattle.plan.specs.declared.Checked.{Checked}
use Rattle.plan.specs.Checking.{checked_with, Checks}

-- Of a value, a flow row and a side row: writing them into this text row is never refused as SOLUTION, and where it is not refused, checking the bytes
-- that it filled with these marks says yes.
pub record WrittenFull (b : BoundedTable) (value : ℕ) (flow side text : List ℕ) : Type 0 where
  pub never_solution : (writing b value flow text).written.refusal ≡ number_of Solution → ⊥
  pub yes : (writing b value flow text).written.refusal ≡ 0 → (r : Checked)
      → Checks b (take (writing b value flow text).written.filled (writing b value flow text).text) side r → r ≡ checked_with 0 0 1
