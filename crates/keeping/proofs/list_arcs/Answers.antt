-- `list_arcs` meets its contract: the test of an arc is that the two rows keep it.
use mathlib.Core.Path.{refl}
use borrow.Author.Rules.{rules, in_lives}
use lib.ListN.{length}
use Rattle.listing.specs.Passing.{passing}
use Rattle.listing.proofs.Listing.{passing_few}
use Rattle.shrinking.specs.Smaller.{arc_by}
use Rattle.keeping.proofs.list_arcs.Goals as goal

pub list_passing-requires : goal.list_passing-requires
unfolding passing
list_passing-requires c κs within =
    let given = c.args in
    let few = passing_few (arc_by given.ahead.now given.behind.now given.tails.now given.heads.now given.capacities.now) (length given.tails.now) in (
      simp (in_lives, within.0, within.1.0, within.1.1.0, within.1.1.1.0, within.1.1.1.1.0) (search rules),
      (search rules, ((λ k a b. search rules), ((λ k a b told so. search rules), (refl, search rules)))),
    )
