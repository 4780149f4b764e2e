-- `solve_part` meets its contract: the parts are lent to be solved, and what comes back goes to their places.
use Rattle.days.proofs.Writing.{parts_left}
use Rattle.month.proofs.solve_part.Goals as goal

pub returns : goal.returns
returns c =
    let given = c.args in
    parts_left given.a given.e given.at given.flow.now given.side.now _ _ c.requires.a_le_e.0 c.solve_plain.ensures
