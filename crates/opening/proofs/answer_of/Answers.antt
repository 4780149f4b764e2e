-- `answer_of` meets its contract: the stamp is raised by one, round 2^32.
use Rattle.opening.proofs.Going.{answer_is}
use Rattle.opening.proofs.answer_of.Goals as goal

pub returns : goal.returns
returns c = answer_is _ _ _ c.wrapping_add_u32.ensures.value
