-- `index_arc` meets its contract: the pair has its first arc already, or this is it.
use Prim.Native.Nat.{◌+◌, ◌-◌, ◌≤◌}
use mathlib.Core.Path.{◌≡◌}
use native.Mathlib.Omega.{arith}
use Rattle.rows.specs.Row.{at_place}
use Rattle.pairs.specs.Places.{first_to, counted}
use Rattle.pairs.proofs.Chains.{built_same, built_added}
use Rattle.pairs.proofs.index_arc.Goals as goal

pub returns-else-is_none : goal.returns-else-is_none
returns-else-is_none c =
    let found : counted c.find_pair.result ≡ first_to (at_place c.args.tails.now) (at_place c.args.heads.now) c.args.place (at_place c.args.tails.now c.args.place) (at_place c.args.heads.now c.args.place) = c.find_pair.ensures (first_to (at_place c.args.tails.now) (at_place c.args.heads.now) c.args.place) c.requires.built.places in
    let a = c.args in
    let some : 1 ≤ counted c.find_pair.result = grind arith in
    built_same a.n a.place a.tails.now a.heads.now a.first.now a.next.now c.requires.arc_ends.0 c.requires.arc_ends.1 c.requires.built (counted c.find_pair.result - 1) (omega (arith, found, some)) (a.place + 1) (omega arith)

pub returns-then-is_none : goal.returns-then-is_none
returns-then-is_none c =
    let found : counted c.find_pair.result ≡ first_to (at_place c.args.tails.now) (at_place c.args.heads.now) c.args.place (at_place c.args.tails.now c.args.place) (at_place c.args.heads.now c.args.place) = c.find_pair.ensures (first_to (at_place c.args.tails.now) (at_place c.args.heads.now) c.args.place) c.requires.built.places in
    let a = c.args in
    let none : counted c.find_pair.result ≡ 0 = grind arith in
    built_added a.n a.place a.tails.now a.heads.now a.first.now a.next.now c.requires.arc_ends.0 c.requires.arc_ends.1 c.requires.built (omega (arith, found, none)) (a.place + 1) (omega arith) c.chain_of-chain.result c.chain_of-chain.ensures
