-- `add_at` meets its contract: x is added at a node, and nothing elsewhere.
use mathlib.Core.Path.{sym, ◌∙◌}
use native.Mathlib.Omega.{arith}
use Rattle.rows.specs.Row.{Node}
use Rattle.pairs.proofs.Chains.{node_is}
use Rattle.plan.proofs.Adding.{adds_none, adds_one}
use Rattle.plan.proofs.add_at.Goals as goal

pub overflow_sub-at : goal.overflow_sub-at
overflow_sub-at c =
    let node : Node c.args.n c.args.i = node_is _ _ (sym c.is_node.ensures ∙ c.if-is_node.true) in
    omega (arith, node)

pub bounds-row-at : goal.bounds-row-at
bounds-row-at c =
    let node : Node c.args.n c.args.i = node_is _ _ (sym c.is_node.ensures ∙ c.if-is_node.true) in
    omega (arith, node)

pub bounds-row-at-then-is_node : goal.bounds-row-at-then-is_node
bounds-row-at-then-is_node c =
    let node : Node c.args.n c.args.i = node_is _ _ (sym c.is_node.ensures ∙ c.if-is_node.true) in
    omega (arith, node)

pub returns-then-is_node : goal.returns-then-is_node
returns-then-is_node c =
    let node : Node c.args.n c.args.i = node_is _ _ (sym c.is_node.ensures ∙ c.if-is_node.true) in
    let a = c.args in
    adds_one a.n a.row.now a.i a.x c.from.result node (omega (arith, node)) (omega (arith, c.from.ensures)) c.from.ensures

pub returns-else-is_node : goal.returns-else-is_node
returns-else-is_node c = let a = c.args in
    adds_none a.n a.row.now a.i a.x (sym c.is_node.ensures ∙ c.if-is_node.false)
