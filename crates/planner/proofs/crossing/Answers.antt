-- `crossing` meets its contract: the marks of the two ends decide.
use Rattle.planner.proofs.Readings.{tail_unmarked, head_marked, only_tail_marked}
use Rattle.planner.proofs.crossing.Goals as goal

pub returns-then-not-is_marked : goal.returns-then-not-is_marked
returns-then-not-is_marked c =
    let given = c.args in
    tail_unmarked given.side.now given.tail given.head c.is_marked.ensures c.if-not-is_marked.true

pub returns-then-is_marked : goal.returns-then-is_marked
returns-then-is_marked c =
    let given = c.args in
    head_marked given.side.now given.tail given.head c.is_marked.ensures c.if-not-is_marked.false c.is_marked-2.ensures c.if-is_marked.true

pub returns : goal.returns
returns c =
    let given = c.args in
    only_tail_marked given.side.now given.tail given.head c.is_marked.ensures c.if-not-is_marked.false c.is_marked-2.ensures c.if-is_marked.false
