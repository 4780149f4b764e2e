-- `start_at` meets its contract: by what leaves the source, and by what is left.
use mathlib.Core.Path.{sym}
use native.Mathlib.Omega.{arith}
use Rattle.walks.proofs.Scanning.{start_source, start_left}
use Rattle.walks.proofs.start_at.Goals as goal

pub returns-in-Some-clause-value : goal.returns-in-Some-clause-value
returns-in-Some-clause-value c = let found = c.in-Some.ensures.value in start_source _ _ _ _ found.0 found.1

pub returns-in-None-clause-value : goal.returns-in-None-clause-value
returns-in-None-clause-value c = start_left _ _ _ _ (sym c.in-None.ensures.value) (omega arith) _ c.requires.lowest_value.0
