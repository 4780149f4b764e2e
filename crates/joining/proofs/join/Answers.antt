-- `join` meets its contract: the ends, then the capacities.
use native.Mathlib.Omega.{arith}
use Rattle.joining.proofs.Writing.{capacities_summable, rows_hold}
use Rattle.joining.proofs.join.Goals as goal

pub join_capacities-requires : goal.join_capacities-requires
join_capacities-requires c = record {
  summable = capacities_summable c.requires.bounded_rows;
  row_len = omega (arith, c.requires.limits_len, c.requires.bounded_rows.minimums_long);
}

pub returns : goal.returns
returns c =
    rows_hold c.requires.bounded_rows c.join_ends.ensures.tails c.join_ends.ensures.heads c.join_capacities.ensures
