-- `answer_day` meets its contract: the day's numbers are read, and its parts lent.
use native.Mathlib.Omega.{arith}
use Rattle.days.specs.Days.{days_in, Days, days_of}
use Rattle.days.proofs.Starting.{day_inside}
use Rattle.days.proofs.Course.{day_is}
use Rattle.month.proofs.answer_day.Goals as goal

pub solve_part-requires : goal.solve_part-requires
solve_part-requires c =
    let days : Days = days_in c.args.days.now in
    let (arcs, rows) = day_inside days _ _ _ c.requires.1.1 c.args.j c.requires.0 c.start_of-a.ensures c.start_of-e.ensures in record {
      a_le_e = arcs;
      e_in_bounds = (rows.0, omega (arith, rows.1));
    }

pub returns : goal.returns
returns c =
    let days : Days = days_in c.args.days.now in
    let given = c.args in
    day_is days given.j given.flow.now given.side.now given.work.now c.start_of-a.ensures c.start_of-e.ensures _ c.solve_part.ensures
