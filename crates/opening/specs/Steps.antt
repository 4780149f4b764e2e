-- What the steps of an opening ask and give: for the contracts of private functions.
use Rattle.std.specs.Prelude.{ℕ, ◌<◌, ◌≤◌, List, length}
use Rattle.rows.specs.Row.{at_place}
use Rattle.network.specs.Network.{Flow}
use Rattle.table.specs.Table.{Table, arcs, capacity, network_of}
use Rattle.table.specs.Accepted.{Accepted}
use Rattle.arcs.specs.Work.{work_need}

-- What holds where nothing is refused, of rows of these lengths.
pub record Opens (t : Table) (place new : ℕ) (flow : List ℕ) (side work : ℕ) : Type 0 where
  pub accepted : Accepted t
  pub for_flow : arcs t ≤ length flow
  pub for_side : t.nodes ≤ side
  pub for_work : work_need t.nodes (arcs t) ≤ work
  pub below : place < arcs t
  pub small : new ≤ 1000000
  pub more : capacity t place ≤ new
  pub was : Flow (network_of t) (at_place flow)
