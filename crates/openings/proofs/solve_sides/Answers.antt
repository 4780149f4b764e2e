-- `solve_sides` meets its contract: the first m places of the flow row are lent to `mark_both`.
use mathlib.Core.Path.{◌≡◌, sym, ◌∙◌}
use lib.ListN.{length, take}
use lib.Seq.{length-take-le}
use Rattle.openings.proofs.Sides.{sides_longer}
use Rattle.openings.proofs.solve_sides.Goals as goal

pub slice_bounds-mark_both-end-2 : goal.slice_bounds-mark_both-end-2
slice_bounds-mark_both-end-2 c =
    let part_long : length (take (length c.args.table.now.capacities.now) c.args.flow.now) ≡ length c.args.table.now.capacities.now = length-take-le _ _ c.requires.capacities_in_bounds.0 in
    sym part_long

pub mark_both-requires : goal.mark_both-requires
mark_both-requires c =
    let part_long : length (take (length c.args.table.now.capacities.now) c.args.flow.now) ≡ length c.args.table.now.capacities.now = length-take-le _ _ c.requires.capacities_in_bounds.0 in
    record {
      accepted = c.requires.accepted;
      flow_len = (part_long, c.requires.capacities_in_bounds.1, c.requires.capacities_in_bounds.2, c.requires.capacities_in_bounds.3);
    }

pub returns : goal.returns
returns c =
    let part_long : length (take (length c.args.table.now.capacities.now) c.args.flow.now) ≡ length c.args.table.now.capacities.now = length-take-le _ _ c.requires.capacities_in_bounds.0 in
    sides_longer _ _ _ _ (c.mark_both.auto.flow ∙ part_long) c.mark_both.ensures
