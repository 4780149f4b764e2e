-- `list_places` meets its contract: the test of an arc is that it would help.
use mathlib.Core.Path.{refl}
use borrow.Author.Rules.{rules, in_lives}
use Rattle.listing.specs.Passing.{passing}
use Rattle.openings.proofs.list_places.Goals as goal

pub list_passing-requires : goal.list_passing-requires
unfolding passing
list_passing-requires c κs within = (
  simp (in_lives, within.0, within.1.0, within.1.1.0, within.1.1.1.0) (search rules),
  (search rules, ((λ k a b. search rules), ((λ k a b told so. search rules), (refl, search rules)))),
)
