-- `start_excess` meets its contract. The invariant: the row holds what the filled arcs below k brought to each node.
use Rattle.start.proofs.Starting.{row_first, row_received, row_passed, row_last, total_received}
use Rattle.rows.proofs.Sums.{sum_term}
use Rattle.rows.proofs.Rows.{node_at, total_zeros}
use Rattle.rows.specs.Sum.{total}
use Rattle.start.specs.Sums.{received}
use Rattle.table.specs.Table.{table_in}
use Rattle.rows.specs.Row.{at_place}
use lib.ListN.{length, replicate}
use mathlib.Core.List.{List}
use mathlib.Core.Path.{◌≡◌, sym, ap, ◌∙◌}
use Prim.Native.Nat.{ℕ, ◌-◌, ◌<◌}
use native.Mathlib.Omega.{arith}
use borrow.Author.Rules.{rules}
use Rattle.start.proofs.start_excess.Goals as goal
use Rattle.start.proofs.start_excess.Goals.{then-table-k, else-table-k}

pub loop-k-init : goal.loop-k-init
loop-k-init c =
    let given = c.args in
    let row = c.fill.new.self in
    let zeros : row ≡ replicate (length given.excess.now) 0 = search rules in
    let same : length row ≡ length given.excess.now = c.fill.auto.self in (
      zeros ∙ rw (← same) (row_first (table_in given.table.now) (length row)),
      omega (arith, ap total zeros, total_zeros (length given.excess.now)),
    )

pub receive-requires : goal.receive-requires
receive-requires c =
    let k = c.loop-k.k in
    let kept : length c.loop-k.excess ≡ length c.args.excess.now = c.loop-k.auto.excess ∙ c.fill.auto.self in
    let node = c.requires.0.ends.head_node k (omega (arith, c.requires.0.capacities_long)) in
    let j = at_place c.args.table.now.heads.now k in
    let held_there = sum_term (length c.loop-k.excess) (at_place c.loop-k.excess) (j - 1) (omega arith) in
    let bounded = c.requires.0.small k (omega arith) in
    ((omega arith, omega arith), omega (arith, c.loop-k.invariant.1, node_at c.loop-k.excess j node.0))

pub loop-k-preserved : goal.loop-k-preserved
loop-k-preserved c =
    let given = c.args in
    let k = c.loop-k.k in
    let row = c.loop-k.excess in
    let n = length c.fill.new.self in
    let long : length row ≡ n = c.loop-k.auto.excess in
    let kept : n ≡ length given.excess.now = c.fill.auto.self in
    let at : k < length given.table.now.tails.now = omega (arith, c.requires.0.capacities_long) in
    let node = c.requires.0.ends.head_node k at in
    let T = table_in given.table.now in
    let j = at_place given.table.now.heads.now k in
    let x = at_place given.table.now.capacities.now k in
    elim c.if-table-k.branch [
      | then-table-k w ↦
          let gained = total_received row given.table.now.sink j x (omega arith) in (
            w.excess-is ∙ w.receive.ensures ∙ ap (λ (row : List ℕ). received row given.table.now.sink j x) c.loop-k.invariant.0
                ∙ row_received T n k w.if-table-k.true (λ q. c.requires.0.ends.no_loop k at (w.if-table-k.true ∙ sym q)) (omega arith),
            omega (arith, ap total (w.excess-is ∙ w.receive.ensures), c.requires.0.small k c.loop-k-test.true),
          )
      | else-table-k w ↦
          (w.excess-is ∙ c.loop-k.invariant.0 ∙ row_passed T n k w.if-table-k.false, omega (arith, ap total w.excess-is))
    ]

pub returns : goal.returns
returns c =
    let kept = c.fill.auto.self in
    let all : c.loop-k.k ≡ length c.args.table.now.capacities.now = omega arith in
    c.loop-k.invariant.0 ∙ rw (all, kept, c.requires.1) (row_last _)
