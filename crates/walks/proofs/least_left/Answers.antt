-- `least_left` meets its contract. The invariant: the least amount is that of `least` and of the places from number k-index on.
use Prim.Native.Nat.{ℕ, suc, ◌<◌}
use mathlib.Core.Path.{sym, ap, subst, ◌∙◌}
use mathlib.Core.List.{List}
use native.Mathlib.Omega.{arith}
use lib.ListN.{length}
use Rattle.rows.specs.Row.{at_place}
use Rattle.pieces.specs.Chains.{least, least_of}
use Rattle.walks.proofs.Scanning.{least_none, least_turn, least_done}
use Rattle.walks.proofs.least_left.Goals as goal

pub returns-in_default : goal.returns-in_default
returns-in_default c =
    let empty = c.in_default.ensures.cases in
    least_none c.args.left.now c.args.places.now (omega arith)

pub loop-k-init : goal.loop-k-init
unfolding least
loop-k-init c = ap (least c.args.left.now) c.in-Some.ensures.cases.0

pub bounds-left-k : goal.bounds-left-k
bounds-left-k c =
    let cases = c.in-Some.ensures.cases in
    subst (λ (row : List ℕ). at_place row (suc c.loop-k.k-index) < length c.args.left.now) cases.0 (c.requires (suc c.loop-k.k-index) (omega (arith, cases.1, c.loop-k-test.true)))

pub loop-k-preserved : goal.loop-k-preserved
loop-k-preserved c =
    c.loop-k.invariant ∙ least_turn _ _ _ _ c.loop-k-test.true ∙ ap (least_of _ _) (sym c.min-least.ensures)

pub returns : goal.returns
returns c = sym (c.loop-k.invariant ∙ least_done _ _ _ _ c.loop-k-test.false)
