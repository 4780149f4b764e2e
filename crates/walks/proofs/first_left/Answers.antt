-- `first_left` meets its contract: what the search finds is the lowest.
use mathlib.Core.Path.{◌≡◌}
use mathlib.Core.Bool.{true, false}
use Rattle.std.proofs.Common.{rules, tests}
use Rattle.std.proofs.lemmas.Iterator.{first_from_Range}
use lib.ListN.{length}
use Rattle.pieces.specs.Chains.{has_left, remaining}
use Rattle.walks.proofs.Scanning.{placed}
use Rattle.walks.proofs.first_left.Goals as goal

pub returns : goal.returns
unfolding remaining
returns c =
    placed (has_left c.args.left.now) (length c.args.tails.now) c.args.from c.requires.left_len.1 c.requires.none_before _
    (first_from_Range _ _ _ _ (λ k. has_left c.args.left.now k ≡ true) (λ k. has_left c.args.left.now k ≡ false) c.find.ensures.ran (λ x q k. search (rules, tests)) (λ x q k. (search rules, search (rules, tests))))
