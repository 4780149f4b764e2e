-- `follow` meets its contract. The invariant: what the walk finds is what the definition's walk finds from node i on, with the first `count` places behind it.
use Prim.Native.Nat.{◌+◌}
use mathlib.Core.List.{[]}
use mathlib.Core.Path.{sym}
use native.Mathlib.Omega.{arith}
use lib.ListN.{get_or, set}
use Rattle.pieces.specs.Chains.{walk}
use Rattle.walks.proofs.Going.{Came, under_starts, under_out, under_stuck, under_came, came_sink, came_ring, came_on}
use Rattle.walks.proofs.follow.Goals as goal

pub loop-count-init : goal.loop-count-init
loop-count-init c =
    (c.requires.ready.ahead, under_starts _ _ _ _ _ _ _ _ c.requires.nodes_in_bounds.0 c.requires.nodes_in_bounds.1 c.requires.nodes_in_bounds.2)

pub leave-requires-clause-node : goal.leave-requires-clause-node
leave-requires-clause-node c = (omega (arith, c.loop-count.invariant.1.rows.node, c.requires.ready.first_long), c.loop-count.invariant.0)

pub returns-in_default-clause-fact : goal.returns-in_default-clause-fact
returns-in_default-clause-fact c = under_stuck _ _ _ _ _ _ _ _ _ _ c.loop-count.invariant.1 _ (sym c.in_default.ensures.value) (omega arith)

pub returns-then-i-sink-clause-fact : goal.returns-then-i-sink-clause-fact
returns-then-i-sink-clause-fact c =
    let found = c.in-Some.ensures.value in
    let came : Came c.args.tails.now c.args.heads.now c.args.left.now c.args.sink c.args.nodes (walk c.args.tails.now c.args.heads.now c.args.sink c.args.left.now c.args.nodes [] c.args.start) (set c.loop-count.walked c.loop-count.count c.in-Some.k) c.set_node.new.row (get_or c.args.heads.now c.in-Some.k 0) (c.loop-count.count + 1) = under_came _ _ _ _ _ _ _ _ _ _ c.loop-count.invariant.1 c.requires.ready.ends c.loop-count-test.true c.in-Some.k found.0 found.1 _ c.set_node.ensures in
    came_sink _ _ _ _ _ _ _ _ _ _ came c.if-i-sink.true

pub when_left-requires-clause-places : goal.when_left-requires-clause-places
when_left-requires-clause-places c =
    let found = c.in-Some.ensures.value in
    let came : Came c.args.tails.now c.args.heads.now c.args.left.now c.args.sink c.args.nodes (walk c.args.tails.now c.args.heads.now c.args.sink c.args.left.now c.args.nodes [] c.args.start) (set c.loop-count.walked c.loop-count.count c.in-Some.k) c.set_node.new.row (get_or c.args.heads.now c.in-Some.k 0) (c.loop-count.count + 1) = under_came _ _ _ _ _ _ _ _ _ _ c.loop-count.invariant.1 c.requires.ready.ends c.loop-count-test.true c.in-Some.k found.0 found.1 _ c.set_node.ensures in
    (came.rows.inside, came.rows.noted)

pub returns-in-Some-when_left-clause-fact : goal.returns-in-Some-when_left-clause-fact
returns-in-Some-when_left-clause-fact c =
    let found = c.in-Some.ensures.value in
    let came : Came c.args.tails.now c.args.heads.now c.args.left.now c.args.sink c.args.nodes (walk c.args.tails.now c.args.heads.now c.args.sink c.args.left.now c.args.nodes [] c.args.start) (set c.loop-count.walked c.loop-count.count c.in-Some.k) c.set_node.new.row (get_or c.args.heads.now c.in-Some.k 0) (c.loop-count.count + 1) = under_came _ _ _ _ _ _ _ _ _ _ c.loop-count.invariant.1 c.requires.ready.ends c.loop-count-test.true c.in-Some.k found.0 found.1 _ c.set_node.ensures in
    came_ring _ _ _ _ _ _ _ _ _ _ came c.if-i-sink.false _ c.in-Some-when_left.ensures.0 c.in-Some-when_left.ensures.1

pub loop-count-preserved : goal.loop-count-preserved
loop-count-preserved c =
    let found = c.in-Some.ensures.value in
    let came : Came c.args.tails.now c.args.heads.now c.args.left.now c.args.sink c.args.nodes (walk c.args.tails.now c.args.heads.now c.args.sink c.args.left.now c.args.nodes [] c.args.start) (set c.loop-count.walked c.loop-count.count c.in-Some.k) c.set_node.new.row (get_or c.args.heads.now c.in-Some.k 0) (c.loop-count.count + 1) = under_came _ _ _ _ _ _ _ _ _ _ c.loop-count.invariant.1 c.requires.ready.ends c.loop-count-test.true c.in-Some.k found.0 found.1 _ c.set_node.ensures in
    (c.leave.ensures.ahead, came_on _ _ _ _ _ _ _ _ _ _ came c.if-i-sink.false c.in_default-when_left.ensures)

pub returns-clause-fact : goal.returns-clause-fact
returns-clause-fact c = under_out _ _ _ _ _ _ _ _ _ _ c.loop-count.invariant.1 c.loop-count-test.false
