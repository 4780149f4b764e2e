-- What an accepted bounded table gives: a sound network, a table accepted by itself, and capacities that 32 bits hold together.
use Prim.Native.Nat.{◌≤◌}
use native.Mathlib.Omega.{arith}
use Rattle.rows.specs.Sum.{sum}
use Rattle.network.specs.Network.{Sound}
use Rattle.table.specs.Table.{arcs, capacity}
use Rattle.table.specs.Accepted.{Accepted}
use Rattle.run.proofs.Whole.{capacity_in_all}
use Rattle.minimums.specs.BoundedTable.{BoundedTable, AcceptedBounded}
use Rattle.feasible.specs.Flows.{bounded_network}

-- An accepted bounded table makes a sound network.
pub bounded_sound : (b : BoundedTable) → AcceptedBounded b → Sound (bounded_network b)
bounded_sound b a =
    let long = a.rows.arcs.capacities_long in
    record {
      source = a.source;
      sink = a.sink;
      apart = a.apart;
      tails = λ k l. a.rows.arcs.ends.tail_node k (omega arith);
      heads = λ k l. a.rows.arcs.ends.head_node k (omega arith);
      loopless = λ k l. a.rows.arcs.ends.no_loop k (omega arith);
    }

-- Its table is accepted by itself.
pub table_accepted : (b : BoundedTable) → AcceptedBounded b → Accepted b.table
table_accepted b a =
    let differ = a.apart in
    record {
      two = omega (arith, a.source, a.sink);
      source = a.source;
      sink = a.sink;
      apart = a.apart;
      rows = a.rows.arcs;
    }

-- All capacities together.
pub all_capacities : (b : BoundedTable) → AcceptedBounded b → sum (arcs b.table) (capacity b.table) ≤ 4096000000
all_capacities b a = capacity_in_all b.table (table_accepted b a)
