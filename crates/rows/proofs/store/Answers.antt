-- `store` meets its contract: the part that holds the items is back in its place.
use Rattle.std.proofs.Common.{arith}
use Rattle.std.proofs.lemmas.Grind.{common_steps}
use Rattle.std.proofs.lemmas.List.Edits.{sets-eq}
use Rattle.rows.proofs.store.Goals as goal

pub returns : goal.returns
returns g c = rw (c.copy_from_slice.ensures.after, sets-eq _ _ _ c.requires) (grind (arith, common_steps))
