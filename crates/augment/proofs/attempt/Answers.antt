-- `attempt` meets its contract: the walk arrived, or the node where it ended is relabelled.
use mathlib.Core.Path.{◌∙◌}
use native.Mathlib.Omega.{arith}
use Rattle.shortest.proofs.Ends.{rows_ends}
use Rattle.augment.proofs.Extending.{walked_known, walk_finds}
use Rattle.augment.proofs.Rising.{relabelled_known}
use Rattle.augment.proofs.attempt.Goals as goal

pub returns-else-walked-eq0 : goal.returns-else-walked-eq0
returns-else-walked-eq0 c =
    let walked = c.walk-walked.ensures.walked in
    record { known = walked_known c.requires.ready c.requires.known walked; found = walk_finds c.requires.ready c.requires.known walked }

pub returns-then-walked-eq0 : goal.returns-then-walked-eq0
returns-then-walked-eq0 c =
    let dead = c.walk-walked.ensures.dead_end c.if-walked-eq0.true in
    let long = c.walk-walked.auto.lowest ∙ c.requires.lowest_len.0 in
    record {
      known = relabelled_known (rows_ends c.requires.ready.rows) c.requires.ready.sink dead.0 dead.1 long (walked_known c.requires.ready c.requires.known c.walk-walked.ensures.walked) c.relabel.ensures;
      found = λ l. absurd (omega arith);
    }
