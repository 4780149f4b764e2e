-- Document 02, CR 11: what deciding whether some flow keeps all arcs between their numbers answers.
use Rattle.std.specs.Prelude.{ℕ, ◌+◌, ◌≡◌, Bool, true, false, List}
use Rattle.rows.specs.Row.{at_place}
use Rattle.minimums.specs.BoundedTable.{BoundedTable, minimum}
use Rattle.feasible.specs.Flows.{BoundedFlow, NoFlow}

-- Whether some flow keeps all arcs between their numbers; where one does, what a row holds above the minimums is such a flow.
pub record Feasible (b : BoundedTable) (more : List ℕ) (yes : Bool) : Type 0 where
  pub keeps : yes ≡ true → BoundedFlow b (λ k. at_place more k + minimum b k)
  pub none : yes ≡ false → NoFlow b
