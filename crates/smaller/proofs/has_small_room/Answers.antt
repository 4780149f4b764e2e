-- `has_small_room` meets its contract, test by test.
use Rattle.std.proofs.Common.{le-leb}
use borrow.Author.Tests.{lt-leb}
use Rattle.smaller.specs.Reducing.{has_small_room}
use Rattle.smaller.proofs.Living.{last_decides}
use Rattle.smaller.proofs.has_small_room.Goals as goal

pub returns-then-not-solving : goal.returns-then-not-solving
returns-then-not-solving c = rw c.if-not-solving.true

pub returns-then-small_tails-m : goal.returns-then-small_tails-m
unfolding has_small_room
returns-then-small_tails-m c = simp (c.if-not-solving.false, lt-leb _ _ c.if-small_tails-m.true)

pub returns-then-small_heads-m : goal.returns-then-small_heads-m
unfolding has_small_room
returns-then-small_heads-m c = simp (c.if-not-solving.false, le-leb _ _ c.if-small_tails-m.false, lt-leb _ _ c.if-small_heads-m.true)

pub returns-then-small_capacities-m : goal.returns-then-small_capacities-m
unfolding has_small_room
returns-then-small_capacities-m c = simp (c.if-not-solving.false, le-leb _ _ c.if-small_tails-m.false, le-leb _ _ c.if-small_heads-m.false, lt-leb _ _ c.if-small_capacities-m.true)

pub returns-then-nodes_from-n : goal.returns-then-nodes_from-n
unfolding has_small_room
returns-then-nodes_from-n c = simp (c.if-not-solving.false, le-leb _ _ c.if-small_tails-m.false, le-leb _ _ c.if-small_heads-m.false, le-leb _ _ c.if-small_capacities-m.false, lt-leb _ _ c.if-nodes_from-n.true)

pub returns : goal.returns
returns c =
    last_decides c.args.solving _ _ _ _ _ _ _ c.if-not-solving.false c.if-small_tails-m.false c.if-small_heads-m.false c.if-small_capacities-m.false c.if-nodes_from-n.false
