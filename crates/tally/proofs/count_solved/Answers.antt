-- `count_solved` meets its contract, by whether the value is the least so far.
use Rattle.tally.proofs.Counting.{counted_lower, counted_higher}
use Rattle.tally.proofs.count_solved.Goals as goal

pub returns-then-is_lower : goal.returns-then-is_lower
returns-then-is_lower c =
    let given = c.args in
    counted_lower given.tally given.day given.value c.is_lower.ensures c.if-is_lower.true

pub returns-else-is_lower : goal.returns-else-is_lower
returns-else-is_lower c =
    let given = c.args in
    counted_higher given.tally given.day given.value c.is_lower.ensures c.if-is_lower.false
