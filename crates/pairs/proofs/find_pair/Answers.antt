-- `find_pair` meets its contract: the chain of a node leads to the pair's place, and another number has none.
use Prim.Native.Nat.{ℕ}
use mathlib.Core.Path.{sym, subst, ◌∙◌}
use native.Mathlib.Omega.{arith}
use Rattle.rows.specs.Row.{Node, at_place}
use Rattle.pairs.specs.Places.{Leads}
use Rattle.pairs.proofs.Chains.{node_is, node_none}
use Rattle.pairs.proofs.find_pair.Goals as goal

pub returns-then-not-is_node : goal.returns-then-not-is_node
returns-then-not-is_node c =
    λ place p. sym (p.others c.args.a c.args.b (node_none c.args.n c.args.a (sym c.is_node.ensures ∙ c.if-not-is_node.true)))

pub chain_of-requires : goal.chain_of-requires
chain_of-requires c =
    let node : Node c.args.n c.args.a = node_is c.args.n c.args.a (sym c.is_node.ensures ∙ c.if-not-is_node.false) in
    node.0

pub bounds-first-chain_of : goal.bounds-first-chain_of
bounds-first-chain_of c =
    let node : Node c.args.n c.args.a = node_is c.args.n c.args.a (sym c.is_node.ensures ∙ c.if-not-is_node.false) in
    omega (arith, node, c.requires.1.first_long, c.chain_of.ensures)

pub returns : goal.returns
returns c =
    let node : Node c.args.n c.args.a = node_is c.args.n c.args.a (sym c.is_node.ensures ∙ c.if-not-is_node.false) in
    let a = c.args in
    λ place p.
    c.find_from.ensures (place a.a a.b)
    (subst (λ (q : ℕ). Leads a.heads.now a.next.now a.b (at_place a.first.now q) (place a.a a.b)) (sym c.chain_of.ensures) (p.finds a.a a.b node))
