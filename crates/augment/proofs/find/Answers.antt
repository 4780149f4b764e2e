-- `find` meets its contract: by the labels as they are or rise, by the source's at n, or by the distances. The invariant: what is known of the labels.
use mathlib.Core.Path.{◌∙◌}
use Rattle.shortest.proofs.Ends.{rows_ends}
use Rattle.augment.proofs.Extending.{walk_decides, far_finds}
use Rattle.augment.proofs.Walking.{measured_known}
use Rattle.augment.proofs.find.Goals as goal

pub returns-then-bounded-dist : goal.returns-then-bounded-dist
returns-then-bounded-dist c = far_finds c.requires.ready c.attempt-least.ensures.known c.if-bounded-dist.true

pub walk-walked-requires-clause-known : goal.walk-walked-requires-clause-known
walk-walked-requires-clause-known c =
    measured_known (rows_ends c.requires.ready.rows) c.requires.ready.sink c.measure_anew.ensures.labels c.measure_anew.ensures.none (c.loop.auto.lowest ∙ c.requires.lowest_len.0)

pub returns : goal.returns
returns c =
    let known = measured_known (rows_ends c.requires.ready.rows) c.requires.ready.sink {far = c.loop.far} c.measure_anew.ensures.labels c.measure_anew.ensures.none (c.loop.auto.lowest ∙ c.requires.lowest_len.0) in
    walk_decides c.requires.ready known c.walk-walked.ensures.walked c.measure_anew.ensures.labels
