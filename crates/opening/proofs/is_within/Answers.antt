-- `is_within` meets its contract: the test of each place.
use Rattle.std.proofs.Common.{◌≡◌, refl, true, false, leb, length, arith, rules, tests}
use Rattle.std.proofs.lemmas.Iterator.{cases_from_all, YieldsList-from_range}
use Rattle.rows.specs.Row.{at_place}
use Rattle.opening.specs.Maximum.{is_within}
use Rattle.opening.proofs.Testing.{told_by_all}
use Rattle.opening.proofs.is_within.Goals as goal

pub returns : goal.returns
unfolding is_within
returns c =
    let capacities = c.args.capacities.now in
    let flow = c.args.flow.now in
    told_by_all (λ k. leb (at_place flow k) (at_place capacities k)) (length capacities) _
    (cases_from_all _ _ _ (λ k. leb (at_place flow k) (at_place capacities k) ≡ true) (λ k. leb (at_place flow k) (at_place capacities k) ≡ false) c.all.ensures.ran
    (YieldsList-from_range 0 _ _ refl (omega arith)) (λ x q k. search (rules, tests)) (λ x q k. search (rules, tests)))
