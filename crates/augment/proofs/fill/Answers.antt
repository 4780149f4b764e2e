-- `fill` meets its contract. The loop's invariant: so many arcs are filled as were passed, and what is left fits.
use native.Mathlib.Omega.{arith}
use Rattle.augment.proofs.Pouring.{poured_moves, poured_head, poured_on, poured_done}
use Rattle.augment.proofs.fill.Goals as goal

pub move_at-requires : goal.move_at-requires
move_at-requires c =
    let so = c.loop-place.invariant in
    let on = c.loop-place-test.true in
    let here = (poured_head _ _ _ _ _ _ _ _ so on).0 in record {
      k_in_bounds = (omega (arith, here, c.requires.rows.arcs.capacities_long), omega (arith, here, c.requires.rows.flow_long, so.long));
      d_bound = poured_moves _ _ _ _ _ _ _ _ so on c.requires.d_nonzero;
    }

pub far_at-i-requires : goal.far_at-i-requires
far_at-i-requires c =
    let head = poured_head _ _ _ _ _ _ _ _ c.loop-place.invariant c.loop-place-test.true in
    (omega (arith, head.0, c.requires.rows.arcs.capacities_long), omega (arith, head.0, c.requires.rows.arcs.capacities_long, c.requires.rows.arcs.ends.heads_long))

pub loop-place-preserved : goal.loop-place-preserved
loop-place-preserved c = poured_on _ _ _ _ _ _ _ _ c.loop-place.invariant c.loop-place-test.true c.move_at.ensures c.far_at-i.ensures

pub returns : goal.returns
returns c = poured_done _ _ _ _ _ _ _ _ c.loop-place.invariant c.loop-place-test.false
