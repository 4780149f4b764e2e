-- `leads` meets its contract: away from the tail, away from the head, or neither.
use mathlib.Core.Path.{◌∙◌}
use Rattle.augment.proofs.Walking.{tail_shut, tail_open_at, neither_end, head_shut, head_open_at}
use Rattle.augment.proofs.leads.Goals as goal

pub returns-then-fore : goal.returns-then-fore
returns-then-fore c = tail_open_at _ _ _ _ _ _ _ _ c.requires.1.0 c.if-tail-i.true c.if-fore.true

pub returns-else-fore : goal.returns-else-fore
returns-else-fore c = c.if-fore.false ∙ tail_shut _ _ _ _ _ _ _ c.if-tail-i.true c.if-fore.false

pub returns-then-back : goal.returns-then-back
returns-then-back c = head_open_at _ _ _ _ _ _ _ _ c.requires.0.0 c.if-tail-i.false c.if-head-i.true c.if-back.true

pub returns-else-back : goal.returns-else-back
returns-else-back c = c.if-back.false ∙ head_shut _ _ _ _ _ _ _ c.if-tail-i.false c.if-head-i.true c.if-back.false

pub returns-else-head-i : goal.returns-else-head-i
returns-else-head-i c = neither_end _ _ _ _ _ _ _ c.if-tail-i.false c.if-head-i.false
