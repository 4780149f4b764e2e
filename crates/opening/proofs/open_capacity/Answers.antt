-- `open_capacity` meets its contract: the old capacities are stored, and the new one set.
use Rattle.std.proofs.Common.{set, sym, ap, ◌∙◌}
use Rattle.rows.proofs.Storing.{sets_all}
use Rattle.opening.proofs.open_capacity.Goals as goal

pub returns : goal.returns
returns c =
    ap (λ row. set row c.args.place c.args.capacity) (c.store.ensures ∙ sets_all c.args.row.now c.args.capacities.now (sym c.requires.0))
