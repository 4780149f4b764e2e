-- `has_month_room` meets its contract, test by test.
use borrow.Author.Tests.{le-leb, lt-leb}
use Rattle.days.specs.Month.{has_month_room}
use Rattle.month.proofs.has_month_room.Goals as goal

pub returns-then-flow-m : goal.returns-then-flow-m
unfolding has_month_room
returns-then-flow-m c = simp (lt-leb _ _ c.if-flow-m.true)

pub returns-then-side-k : goal.returns-then-side-k
unfolding has_month_room
returns-then-side-k c = simp (le-leb _ _ c.if-flow-m.false, lt-leb _ _ c.if-side-k.true)

pub returns : goal.returns
unfolding has_month_room
returns c = simp (le-leb _ _ c.if-flow-m.false, le-leb _ _ c.if-side-k.false)
