-- `phase_count` meets its contract: K by the zeros in front of the number before the excess.
use Rattle.start.proofs.Scaling.{phases_some, phases_none}
use mathlib.Core.Path.{sym}
use borrow.Author.Rules.{rules}
use Rattle.start.proofs.phase_count.Goals as goal

pub returns-then-x-eq0 : goal.returns-then-x-eq0
returns-then-x-eq0 c = (sym (phases_none _ c.if-x-eq0.true), search rules)

pub returns-else-x-eq0 : goal.returns-else-x-eq0
returns-else-x-eq0 c = phases_some c.args.x c.if-x-eq0.false (search rules)
