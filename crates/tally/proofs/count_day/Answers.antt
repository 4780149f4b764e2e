-- `count_day` meets its contract: only a day with no refusal counts.
use mathlib.Core.Path.{sym, ◌∙◌}
use Rattle.tally.proofs.Counting.{solved_day, refused_day}
use Rattle.tally.proofs.count_day.Goals as goal

pub returns-then-a-eq0 : goal.returns-then-a-eq0
returns-then-a-eq0 c =
    let given = c.args in
    c.count_solved.ensures ∙ sym (solved_day given.tally given.day given.a c.if-a-eq0.true)

pub returns-else-a-eq0 : goal.returns-else-a-eq0
returns-else-a-eq0 c =
    let given = c.args in
    sym (refused_day given.tally given.day given.a c.if-a-eq0.false)
