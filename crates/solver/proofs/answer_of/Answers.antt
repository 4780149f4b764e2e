-- `answer_of` meets its contract: the fields are those of the definition.
use mathlib.Core.Path.{refl}
use Rattle.solver.specs.Solving.{answer_with}
use Rattle.solver.proofs.answer_of.Goals as goal

pub returns : goal.returns
unfolding answer_with
returns c = refl
