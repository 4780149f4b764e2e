-- `largest` meets its contract: the greatest number bounds all, and nothing less does.
use Rattle.std.proofs.Common.{refl, arith, rules}
use Rattle.std.proofs.lemmas.Grind.{common_steps}
use Rattle.std.proofs.lemmas.List.Recursion.{max_bounds, max_least}
use Rattle.run.specs.Scale.{largest}
use Rattle.start.proofs.largest.Goals as goal

pub returns : goal.returns
unfolding largest
returns c =
    let bounds = max_bounds largest (λ x. x) refl (λ _ _. refl) c.args.row.now in
    let least = max_least largest (λ x. x) refl (λ _ _. refl) c.args.row.now 0 c.unwrap_or.result (search rules) in
    grind (arith, common_steps, bounds, least)
