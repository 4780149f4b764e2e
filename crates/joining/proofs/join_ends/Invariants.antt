-- `join_ends` meets its contract. The invariant: the first k places of both rows are written.
use lib.ListN.{length}
use Rattle.joining.specs.Joining.{joined_tail, joined_head}
use Rattle.joining.proofs.Blocks.{Written}
use Rattle.joining.proofs.join_ends.Given as goal

abbrev pub invariant-loop-k : goal.invariant-loop-k
invariant-loop-k l =
    Written (joined_tail l.table.nodes l.table.source l.table.sink l.table.tails.now (length l.table.tails.now)) l.initial.from l.from l.k × Written (joined_head l.table.nodes l.table.source l.table.sink l.table.heads.now (length l.table.tails.now)) l.initial.to l.to l.k
