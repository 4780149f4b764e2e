-- `leads_at` meets its contract: the test is made of what stands at the place.
use mathlib.Core.Path.{◌∙◌}
use Rattle.augment.proofs.Walking.{lead_test}
use Rattle.augment.proofs.leads_at.Goals as goal

pub returns : goal.returns
returns c = c.leads.ensures ∙ lead_test c.requires.0 c.args.dist.now c.args.d c.args.i c.args.k
