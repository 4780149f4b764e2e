-- `all_full` meets its contract: two parts of rows are compared.
use Rattle.feasible.proofs.Filling.{full_by}
use Rattle.feasible.proofs.all_full.Goals as goal

pub returns : goal.returns
returns c = full_by _ _ _ _ c.requires.1.0 c.requires.1.1 _ c.eq.ensures
