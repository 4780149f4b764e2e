-- `hand_over` meets its contract: what is stored from the front on is in front of the later places.
use Rattle.solver.proofs.Solved.{front_stored}
use mathlib.Core.Path.{ap, ◌∙◌}
use Rattle.rows.specs.Row.{cleared}
use Rattle.solver.proofs.hand_over.Goals as goal

pub returns : goal.returns
returns c = record {
  flow_value = front_stored _ _ _ _ c.requires.m_in_bounds.0 c.requires.m_bound.1 c.store.ensures;
  side_value = front_stored _ _ _ _ c.requires.m_in_bounds.1 c.requires.m_bound.2 c.store-2.ensures;
  work_value = c.clear.ensures ∙ ap (λ end. cleared end c.args.work.now) c.work_need.ensures;
}
