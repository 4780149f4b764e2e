-- `rise_over` meets its contract: away from the tail, or from the head.
use Rattle.augment.proofs.Rising.{rise_tail, rise_head}
use Rattle.augment.proofs.rise_over.Goals as goal

pub returns-then-tail-i : goal.returns-then-tail-i
returns-then-tail-i c = rise_tail c.requires.rows c.requires.labelled.0.1 c.requires.labelled.1 c.requires.k_in_bounds.0 c.if-tail-i.true c.one_above.ensures

pub returns-else-tail-i : goal.returns-else-tail-i
returns-else-tail-i c = rise_head c.requires.rows c.requires.labelled.0.1 c.requires.labelled.1 c.requires.k_in_bounds.0 c.if-tail-i.false c.requires.k_in_bounds.1 c.one_above-else-tail-i.ensures
