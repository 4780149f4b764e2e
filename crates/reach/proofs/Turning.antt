-- What reaches the sink is what the sink reaches with every arc the other way round.
use Prim.Native.Nat.{ℕ, ◌<◌}
use mathlib.Core.Path.{sym}
use mathlib.Core.Bool.{Bool, true, false}
use mathlib.Core.List.{List}
use native.Mathlib.Omega.{arith}
use Rattle.rows.specs.Row.{at_place}
use Rattle.network.specs.Network.{Network, Reach, source, along, ToSink, arrived, onward, SinkReached, near_end, far_end, residual_over, Sound}
use Rattle.table.specs.Table.{Table, network_of}
use Rattle.table.specs.Accepted.{ArcRows}
use Rattle.reach.specs.Side.{marked, turned, sink_side_of}
use Rattle.reach.proofs.Side.{side_reached}

-- The network with every arc the other way round, and source and sink exchanged.
abbrev reversed : Network → Network
reversed N =
    record {
      n = N.n;
      m = N.m;
      s = N.t;
      t = N.s;
      tail = N.head;
      head = N.tail;
      capacity = N.capacity;
      low = N.low;
    }

-- It is sound where the network is.
reversed_sound : (N : Network) → Sound N → Sound (reversed N)
reversed_sound N sound =
    record {
      source = sound.sink;
      sink = sound.source;
      apart = λ e. sound.apart (sym e);
      tails = sound.heads;
      heads = sound.tails;
      loopless = λ k l e. sound.loopless k l (sym e);
    }

module _ (N : Network) (flow : ℕ → ℕ) where
  -- One arc of it is one of the network's, taken the other way round,
  back_on : (k : ℕ) (b : Bool) → k < N.m → 0 < residual_over (reversed N) flow k b → ToSink N flow (near_end (reversed N) k b) → ToSink N flow (far_end (reversed N) k b)
  back_on k true l r way = onward k true l r way
  back_on k false l r way = onward k false l r way

  -- and one of the network's is one of it.
  on_back : (k : ℕ) (b : Bool) → k < N.m → 0 < residual_over N flow k b → Reach (reversed N) flow (far_end N k b) → Reach (reversed N) flow (near_end N k b)
  on_back k true l r way = along k true l r way
  on_back k false l r way = along k false l r way

  -- What the sink reaches there reaches it here,
  reach_to_sink : {i : ℕ} → Reach (reversed N) flow i → ToSink N flow i
  reach_to_sink source = arrived
  reach_to_sink (along k b l r way) = back_on k b l r (reach_to_sink way)

  -- and the other way round.
  to_sink_reach : {i : ℕ} → ToSink N flow i → Reach (reversed N) flow i
  to_sink_reach arrived = source
  to_sink_reach (onward k b l r way) = on_back k b l r (to_sink_reach way)

-- A table with every arc the other way round is sound where the table is.
pub turned_sound : (t : Table) → Sound (network_of t) → Sound (network_of (turned t))
turned_sound t sound = reversed_sound (network_of t) sound

-- The other side marks exactly the nodes that reach the sink.
pub sink_side_reached : (t : Table) → Sound (network_of t) → (flow : List ℕ) → SinkReached (network_of t) (at_place flow) (marked (sink_side_of t flow))
sink_side_reached t sound flow =
    let exact = side_reached (reversed (network_of t)) (at_place flow) (reversed_sound (network_of t) sound) in
    record {
      into = λ i way. exact.into i (to_sink_reach (network_of t) (at_place flow) way);
      from = λ i e. reach_to_sink (network_of t) (at_place flow) (exact.from i e);
    }

-- Rows of arcs are so with every arc the other way round.
pub rows_turned : {n : ℕ} {tails heads capacities : List ℕ} → ArcRows n tails heads capacities → ArcRows n heads tails capacities
rows_turned rows =
    record {
      ends =
          record {
            few_nodes = rows.ends.few_nodes;
            few_arcs = omega (arith, rows.ends.few_arcs, rows.ends.heads_long);
            heads_long = sym rows.ends.heads_long;
            tail_node = λ k l. rows.ends.head_node k (omega (arith, rows.ends.heads_long));
            head_node = λ k l. rows.ends.tail_node k (omega (arith, rows.ends.heads_long));
            no_loop = λ k l e. rows.ends.no_loop k (omega (arith, rows.ends.heads_long)) (sym e);
          };
      capacities_long = omega (arith, rows.capacities_long, rows.ends.heads_long);
      small = rows.small;
    }
