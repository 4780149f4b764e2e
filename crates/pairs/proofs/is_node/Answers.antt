-- `is_node` meets its contract.
use mathlib.Core.Bool.{Bool, ◌&&◌}
use lib.Dec.{leb}
use mathlib.Core.Path.{sym, ap, ◌∙◌}
use borrow.Author.Tests.{le-leb, lt-leb}
use Rattle.pairs.specs.Places.{is_node}
use Rattle.pairs.proofs.is_node.Goals as goal

pub returns-then-i-ge1 : goal.returns-then-i-ge1
unfolding is_node
returns-then-i-ge1 c = sym (ap (λ (b : Bool). b && leb c.args.i c.args.n) (le-leb 1 c.args.i c.if-i-ge1.true))

pub returns-else-i-ge1 : goal.returns-else-i-ge1
unfolding is_node
returns-else-i-ge1 c = let none = lt-leb 1 c.args.i c.if-i-ge1.false in
    none ∙ sym (ap (λ (b : Bool). b && leb c.args.i c.args.n) none)
