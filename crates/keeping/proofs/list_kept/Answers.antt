-- `list_kept` meets its contract: the test of a node is that the two rows keep it.
use Prim.Native.Nat.{ℕ, suc, ◌+◌, ◌≤◌}
use mathlib.Core.Path.{◌≡◌, subst}
use mathlib.Core.Bool.{Bool}
use native.Mathlib.Omega.{arith}
use borrow.Author.Rules.{rules, in_lives}
use lib.ListN.{length}
use Rattle.listing.specs.Passing.{passing}
use Rattle.listing.proofs.Listing.{passing_fewer}
use Rattle.shrinking.specs.Smaller.{node_by}
use Rattle.keeping.proofs.Keeping.{node_zero, none_before}
use Rattle.keeping.proofs.list_kept.Goals as goal

pub list_passing-requires : goal.list_passing-requires
list_passing-requires c κs within =
    let given = c.args in
    let test : ℕ → Bool = node_by given.ahead.now given.behind.now given.s given.t in
    let n = length given.ahead.now in
    let on : suc n ≡ n + 1 = omega arith in
    let few = subst (λ e. length (passing test e) ≤ n) on (passing_fewer test (node_zero given.ahead.now given.behind.now given.s given.t c.requires.3.0 c.requires.3.1) n) in
    let long = c.requires.1 in (
      simp (in_lives, within.0, within.1.0, within.1.1.0, within.1.1.1.0) (search rules),
      (search rules, ((λ k a b. search rules), ((λ k a b told so. search rules), (none_before _ _ _ _ c.requires.3.0 c.requires.3.1, search rules)))),
    )
