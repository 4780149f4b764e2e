-- `open_accepted` meets its contract: a row of its own for the lists is lent on.
use Rattle.std.proofs.Common.{arith}
use Rattle.opening.proofs.open_accepted.Goals as goal

pub open_listed-requires : goal.open_listed-requires
open_listed-requires c =
    let rows = c.requires.accepted.rows in record {
      accepted = c.requires.accepted;
      given_room = c.requires.given_room;
      tails_in_bounds = omega (arith, rows.ends.few_nodes, rows.ends.few_arcs);
    }
