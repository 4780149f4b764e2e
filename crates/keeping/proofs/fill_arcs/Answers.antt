-- `fill_arcs` meets its contract: each row has the new number of an end, or the capacity.
use native.Mathlib.Omega.{arith}
use borrow.Author.Rules.{rules, in_lives}
use lib.Seq.{length-take-le}
use Rattle.keeping.proofs.fill_arcs.Goals as goal

pub fill_from-requires : goal.fill_from-requires
fill_from-requires c κs within = (
  simp (in_lives, within.0, within.1.0) (search rules),
  (
    (λ q l. let at = c.requires.arc_ends.3 q l in let node = c.requires.arc_ends.0.tail_node _ at in search rules),
    ((λ q l x so. search rules), omega (arith, length-take-le c.args.count c.args.from.now c.requires.arc_ends.2, c.requires.count_in_bounds.0)),
  ),
)

pub fill_from-requires-2 : goal.fill_from-requires-2
fill_from-requires-2 c κs within = (
  simp (in_lives, within.0, within.1.0) (search rules),
  (
    (λ q l. let at = c.requires.arc_ends.3 q l in let node = c.requires.arc_ends.0.head_node _ at in let long = c.requires.arc_ends.0.heads_long in search rules),
    ((λ q l x so. search rules), omega (arith, length-take-le c.args.count c.args.from.now c.requires.arc_ends.2, c.requires.count_in_bounds.1)),
  ),
)
