-- `is_conserved` meets its contract: both rows of sums, then the nodes.
use Rattle.std.proofs.Common.{◌∙◌}
use Rattle.opening.proofs.Leaves.{kept_by_sums}
use Rattle.opening.proofs.is_conserved.Goals as goal

pub returns : goal.returns
returns c =
    c.is_kept.ensures
    ∙ kept_by_sums c.args.s c.args.t c.tally.ensures c.tally-2.ensures c.tally.auto.sums (c.tally-2.auto.sums ∙ c.requires.leaving_len.0)
