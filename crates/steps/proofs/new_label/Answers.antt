-- `new_label` meets its contract: one more than `least_far` from 2n.
use mathlib.Core.Path.{ap}
use Prim.Native.Nat.{ℕ, ◌+◌}
use Rattle.steps.proofs.new_label.Goals as goal

pub returns-clause-by_index : goal.returns-clause-by_index
returns-clause-by_index c n s t heads excess ends_are =
    let least = c.least_far-found.ensures.by_index n s t heads excess ends_are in
    (ap (λ (x : ℕ). x + 1) least.0, least.1)
