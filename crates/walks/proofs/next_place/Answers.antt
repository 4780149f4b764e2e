-- `next_place` meets its contract: what the search finds is the lowest.
use mathlib.Core.Path.{◌≡◌}
use mathlib.Core.Bool.{true, false}
use Rattle.std.proofs.Common.{rules, tests}
use Rattle.std.proofs.lemmas.Iterator.{first_from_Range}
use lib.ListN.{length}
use Rattle.pieces.specs.Chains.{leads_on, onward}
use Rattle.walks.proofs.Scanning.{placed}
use Rattle.walks.proofs.next_place.Goals as goal

pub returns : goal.returns
unfolding onward
returns c =
    placed (leads_on c.args.tails.now c.args.left.now c.args.i) (length c.args.tails.now) c.args.from c.requires.left_len.1 c.requires.none_before _
    (first_from_Range _ _ _ _ (λ k. leads_on c.args.tails.now c.args.left.now c.args.i k ≡ true) (λ k. leads_on c.args.tails.now c.args.left.now c.args.i k ≡ false) c.find.ensures.ran (λ x q k. search (rules, tests)) (λ x q k. (search rules, search (rules, tests))))
