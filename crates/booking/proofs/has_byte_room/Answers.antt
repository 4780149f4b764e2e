-- `has_byte_room` meets its contract, test by test.
use borrow.Author.Tests.{le-leb, lt-leb}
use Rattle.wire.specs.Rows.{has_byte_room}
use Rattle.booking.proofs.has_byte_room.Goals as goal

pub returns-then-flow-m : goal.returns-then-flow-m
unfolding has_byte_room
returns-then-flow-m c = simp (lt-leb _ _ c.if-flow-m.true)

pub returns-then-side-n : goal.returns-then-side-n
unfolding has_byte_room
returns-then-side-n c = simp (le-leb _ _ c.if-flow-m.false, lt-leb _ _ c.if-side-n.true)

pub returns : goal.returns
unfolding has_byte_room
returns c = simp (le-leb _ _ c.if-flow-m.false, le-leb _ _ c.if-side-n.false)
