-- `solve_day` meets its contract: the day is answered, its numbers written and its value counted.
use native.Mathlib.Omega.{arith}
use Rattle.days.specs.Days.{days_in, Days, held, days_of}
use Rattle.days.proofs.Course.{day_held, day_value}
use Rattle.month.proofs.solve_day.Goals as goal

pub overflow_mul-j : goal.overflow_mul-j
overflow_mul-j c =
    omega (arith, c.requires.fact.few, c.requires.j_in_bounds.0)

pub write_answer-requires : goal.write_answer-requires
write_answer-requires c =
    omega (arith, c.requires.fact.for_answers, c.requires.j_in_bounds.0)

pub overflow_add-j : goal.overflow_add-j
overflow_add-j c =
    omega (arith, c.requires.fact.few, c.requires.j_in_bounds.0)

pub overflow_cast-j : goal.overflow_cast-j
overflow_cast-j c =
    omega (arith, c.requires.fact.few, c.requires.j_in_bounds.0)

pub count_day-requires : goal.count_day-requires
count_day-requires c =
    let days : Days = days_in c.args.days.now in
    let given = c.args in
    let small = day_value days given.j given.flow.now given.side.now given.work.now _ c.answer_day-answer.ensures in
    (omega (arith, c.requires.fact.few, c.requires.j_in_bounds.0, c.requires.j_in_bounds.1.tables_few), omega (arith, c.requires.fact.few, c.requires.j_in_bounds.0, c.requires.j_in_bounds.1.total_small, small))

pub returns : goal.returns
returns c =
    let days : Days = days_in c.args.days.now in
    let given = c.args in
    day_held days given.j (held given.tally given.flow.now given.side.now given.work.now given.answers.now) _ c.answer_day-answer.ensures c.count_day.ensures c.write_answer.ensures
