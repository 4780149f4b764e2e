-- `halt` meets its contract: a flow row of its own is lent on.
use native.Mathlib.Omega.{arith}
use Rattle.room.proofs.halt.Goals as goal

pub halt_rows-requires : goal.halt_rows-requires
halt_rows-requires c =
    let rows = c.requires.0.rows in record {
      accepted = c.requires.0;
      capacities_in_bounds = (omega (arith, rows.ends.few_arcs, rows.capacities_long), c.requires.1);
    }
