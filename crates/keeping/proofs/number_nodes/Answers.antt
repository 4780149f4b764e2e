-- `number_nodes` meets its contract. The loop's invariant: the first k nodes have their numbers, and the kept nodes up to k are counted.
use Prim.Native.Nat.{ℕ, suc, ◌+◌}
use mathlib.Core.Path.{◌≡◌, sym, ap, ◌∙◌}
use mathlib.Core.Bool.{Bool}
use native.Mathlib.Omega.{arith}
use lib.ListN.{length}
use Rattle.rows.proofs.Rows.{fill_place, fill_none}
use Rattle.listing.proofs.Listing.{passing_fewer}
use Rattle.shrinking.specs.Smaller.{node_by, up_to}
use Rattle.listing.proofs.Ranking.{count_by}
use Rattle.keeping.proofs.Keeping.{node_zero, none_before}
use Rattle.keeping.proofs.number_nodes.Goals as goal

pub loop-k-init : goal.loop-k-init
loop-k-init c =
    let args = c.args in
    (sym (ap length (none_before args.ahead.now args.behind.now args.s args.t c.requires.3.0 c.requires.3.1)), fill_none _ _)

-- The kept nodes up to the next one are counted.
counted : (c : goal.After-from-count) → let test = node_by c.args.ahead.now c.args.behind.now c.args.s c.args.t in c.loop-k.count + c.from-count.result ≡ up_to test (suc c.loop-k.k)
counted c =
    let on : c.loop-k.k + 1 ≡ suc c.loop-k.k = omega arith in
    let test : ℕ → Bool = let args = c.args in node_by args.ahead.now args.behind.now args.s args.t in
    count_by test (suc c.loop-k.k) c.loop-k.count _ _ (c.keeps_node.ensures ∙ ap test on) c.loop-k.invariant.0 c.from-count.ensures

pub overflow_add-count : goal.overflow_add-count
overflow_add-count c =
    let test : ℕ → Bool = let args = c.args in node_by args.ahead.now args.behind.now args.s args.t in
    omega (arith, c.requires.0, counted c, passing_fewer test (node_zero c.args.ahead.now c.args.behind.now c.args.s c.args.t c.requires.3.0 c.requires.3.1) (suc c.loop-k.k))

pub loop-k-preserved : goal.loop-k-preserved
loop-k-preserved c =
    let test : ℕ → Bool = let args = c.args in node_by args.ahead.now args.behind.now args.s args.t in
    let k = c.loop-k.k in
    let on : k + 1 ≡ suc k = omega arith in (
      rw on (counted c),
      rw c.loop-k.invariant.1 (fill_place (λ q. up_to test (suc q)) k _ c.args.numbers.now (omega arith) (counted c)),
    )
