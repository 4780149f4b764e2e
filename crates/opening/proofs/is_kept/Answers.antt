-- `is_kept` meets its contract: the test of the node behind each place.
use Rattle.std.proofs.Common.{◌≡◌, refl, suc, true, false, length, arith, rules, tests}
use Rattle.std.proofs.lemmas.Iterator.{cases_from_all, YieldsList-from_range}
use Rattle.rows.specs.Row.{at_node}
use Rattle.opening.specs.Maximum.{keeps, is_kept}
use Rattle.opening.proofs.Testing.{told_by_all}
use Rattle.opening.proofs.is_kept.Goals as goal

pub returns : goal.returns
unfolding is_kept
returns c =
    let entering = c.args.entering.now in
    let leaving = c.args.leaving.now in
    told_by_all (λ k. keeps c.args.s c.args.t (suc k) (at_node entering (suc k)) (at_node leaving (suc k))) (length entering) _
    (cases_from_all _ _ _ (λ k. keeps c.args.s c.args.t (suc k) (at_node entering (suc k)) (at_node leaving (suc k)) ≡ true) (λ k. keeps c.args.s c.args.t (suc k) (at_node entering (suc k)) (at_node leaving (suc k)) ≡ false) c.all.ensures.ran
    (YieldsList-from_range 0 _ _ refl (omega arith)) (λ x q k. search (rules, tests)) (λ x q k. search (rules, tests)))
