-- `solve_in` meets its contract: the joined network, whether a flow keeps all arcs between their numbers, and then the greatest.
use mathlib.Core.Path.{refl, sym, ap, subst, ◌∙◌}
use native.Mathlib.Omega.{arith}
use lib.ListN.{length, length-replicate}
use Rattle.bounded.specs.Bounded.{GreatestBounded}
use Rattle.bounded.proofs.Rows.{room_for, above_is}
use Rattle.bounded.proofs.Signed.{read_value}
use Rattle.bounded.proofs.solve_in.Goals as goal

pub returns-then-not-feasible : goal.returns-then-not-feasible
returns-then-not-feasible c =
    (c.feasible.ensures.none c.if-not-feasible.true, (refl, refl))

pub slice_bounds-spare-end : goal.slice_bounds-spare-end
slice_bounds-spare-end c =
    room_for c.join.ensures

pub greatest-requires : goal.greatest-requires
greatest-requires c = record {
  solvable = c.requires.solvable;
  above = above_is c.join.ensures
      (c.feasible.auto.more ∙ ap length c.requires.own_rows.more_empty ∙ length-replicate _ 0)
      (c.feasible.ensures.keeps c.if-not-feasible.false);
  work_end_in_bounds = omega (arith, c.requires.own_rows.lists_long, c.feasible.auto.lists);
}

pub returns : goal.returns
returns c =
    let best = c.greatest.ensures.1 in
    (c.greatest.ensures.0, subst (GreatestBounded _ _ _) (sym (read_value best.range)) best)
