-- `write_marks` meets its contract: the first n marks are lent to be stored.
use Rattle.solver.proofs.Solved.{front_stored}
use Rattle.booking.proofs.write_marks.Goals as goal

pub returns : goal.returns
returns c =
    front_stored _ _ _ _ c.requires.0 c.requires.1 c.store.ensures
