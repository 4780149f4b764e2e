-- `start_flow` meets its contract. The invariant: the first k places are filled, the others as they were.
use Rattle.rows.proofs.Rows.{fill_none, fill_place}
use Rattle.table.specs.Table.{table_in}
use Rattle.run.specs.Start.{start_flow_at, start_flow}
use lib.ListN.{length, set}
use mathlib.Core.List.{List}
use mathlib.Core.Path.{◌≡◌, ap, ◌∙◌}
use Prim.Native.Nat.{ℕ}
use native.Mathlib.Omega.{arith}
use borrow.Author.Tests.{eq-eqb, ne_eqb}
use Rattle.start.proofs.start_flow.Goals as goal
use Rattle.start.proofs.start_flow.Goals.{then-table-k, else-table-k}

pub loop-k-init : goal.loop-k-init
loop-k-init c = fill_none _ _

pub loop-k-preserved : goal.loop-k-preserved
loop-k-preserved c =
    let given = c.args in
    let k = c.loop-k.k in
    let filled : c.if-table-k.flow ≡ start_flow_at (table_in given.table.now) k =
    elim c.if-table-k.branch [
      | then-table-k w ↦ rw (eq-eqb _ _ w.if-table-k.true) w.flow-is
      | else-table-k w ↦ rw (ne_eqb _ _ w.if-table-k.false) w.flow-is
    ] in
    ap (λ (l : List ℕ). set l k c.if-table-k.flow) c.loop-k.invariant ∙ fill_place _ k c.if-table-k.flow given.flow.now (omega arith) filled

pub returns : goal.returns
unfolding start_flow
returns c n t heads =
    let all : c.loop-k.k ≡ length c.args.table.now.capacities.now = omega arith in
    rw (← all) c.loop-k.invariant
