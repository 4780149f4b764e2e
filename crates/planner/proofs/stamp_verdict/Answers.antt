-- `stamp_verdict` meets its contract, case by case.
use mathlib.Core.Path.{sym, ap, ◌∙◌}
use Rattle.planner.specs.Reading.{stamp_verdict}
use Rattle.planner.proofs.stamp_verdict.Goals as goal

pub returns-in-Same : goal.returns-in-Same
returns-in-Same c = ap stamp_verdict (sym c.in-Same.is ∙ c.compare_stamps.ensures.exact)

pub returns-in-Stale : goal.returns-in-Stale
returns-in-Stale c = rw c.at.ensures (ap stamp_verdict (sym c.in-Stale.is ∙ c.compare_stamps.ensures.exact))

pub returns-in-Unordered : goal.returns-in-Unordered
returns-in-Unordered c = rw c.at-in-Unordered.ensures (ap stamp_verdict (sym c.in-Unordered.is ∙ c.compare_stamps.ensures.exact))

pub returns-in-Ahead : goal.returns-in-Ahead
returns-in-Ahead c = rw c.at-in-Ahead.ensures (ap stamp_verdict (sym c.in-Ahead.is ∙ c.compare_stamps.ensures.exact))
