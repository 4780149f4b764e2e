-- `copy_arcs` meets its contract: the row is the one that all records fill.
use Rattle.std.proofs.Common.{refl, sym, ap, ◌∙◌}
use lib.ListN.{get_or}
use Rattle.records.specs.Columns.{zeros, no_arc, with_arc}
use Rattle.records.proofs.Filling.{filled_none, filled_next}
use Rattle.records.proofs.copy_arcs.Goals as goal

pub loop-k-init : goal.loop-k-init
unfolding zeros
loop-k-init c = sym (filled_none c.args.arcs.now)

pub loop-k-preserved : goal.loop-k-preserved
loop-k-preserved c =
    filled_next c.args.arcs.now c.loop-k.k refl (c.put_arc.ensures ∙ ap (λ row. with_arc row c.loop-k.k (get_or c.args.arcs.now c.loop-k.k no_arc)) c.loop-k.invariant)
