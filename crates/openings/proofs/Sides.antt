-- From a solved table with both sides marked to what the call promises.
use Prim.Native.Nat.{ℕ, ◌≤◌, ◌<◌}
use mathlib.Core.Path.{◌≡◌, ap, ◌∙◌}
use mathlib.Core.Bool.{true, false}
use mathlib.Core.List.{List, ◌++◌}
use native.Mathlib.Omega.{arith}
use borrow.Author.Tests.{leb-true, le-leb, lt-leb}
use lib.Dec.{leb}
use lib.ListN.{length, take, drop}
use lib.Seq.{take_all, take_at, take-append-le}
use Rattle.rows.specs.Row.{at_place}
use Rattle.rows.proofs.Sums.{both_true}
use Rattle.table.specs.Table.{Table, arcs, network_of}
use Rattle.table.specs.Accepted.{Accepted}
use Rattle.reach.specs.Side.{turned, side_of, sink_side_of}
use Rattle.reach.proofs.Side.{length_of_side}
use Rattle.reach.proofs.Turning.{turned_sound}
use Rattle.run.specs.Phase.{run}
use Rattle.run.proofs.Networks.{accepted_sound}
use Rattle.run.proofs.Answers.{run_fits}
use Rattle.solver.specs.declared.Answer.{Answer}
use Rattle.solver.specs.Filled.{Filled}
use Rattle.openings.specs.Sides.{Sides}
use Rattle.openings.specs.Finding.{has_lists}

module _ (t : Table) (ok : Accepted t) where
  -- The flow has a number for each arc,
  pub flow_long : length (run t).state.flow ≡ arcs t
  flow_long = (run_fits t ok).flow

  -- and each side a mark for each node.
  pub side_long : (flow : List ℕ) → length (side_of t flow) ≡ t.nodes
  side_long flow = length_of_side (network_of t) (at_place flow) (accepted_sound t ok)

  -- The other one too.
  pub sinks_long : (flow : List ℕ) → length (sink_side_of t flow) ≡ t.nodes
  sinks_long flow = length_of_side (network_of (turned t)) (at_place flow) (turned_sound t (accepted_sound t ok))

  -- What is solved while the lists stand, with the sink's side marked by them.
  pub filled_sides : {stamp : ℕ} {side work : List ℕ} {r : Answer} {flow_left side_left work_left : List ℕ} (sinks sinks_left : List ℕ)
      → Filled t stamp side work r flow_left side_left work_left → sinks_left ≡ sink_side_of t flow_left ++ drop t.nodes sinks
      → Sides t stamp r flow_left side_left sinks_left
  filled_sides {side = side} {flow_left = flow_left} sinks sinks_left done marked =
      let flow : List ℕ = (run t).state.flow in
      record {
        answer_is = done.answer_is;
        flow_is = ap (take (arcs t)) done.flow_is ∙ take_all (arcs t) flow (omega (arith, flow_long));
        side_is = ap (take t.nodes) done.side_is ∙ take_at (side_of t flow) (drop t.nodes side) t.nodes (side_long flow);
        sinks_are =
            ap (take t.nodes) marked ∙ take_at (sink_side_of t flow_left) (drop t.nodes sinks) t.nodes (sinks_long flow_left)
            ∙ ap (sink_side_of t) done.flow_is;
      }

-- The flow row may be longer.
pub sides_longer : {t : Table} {stamp : ℕ} {r : Answer} (flow rest side sinks : List ℕ) → length flow ≡ arcs t → Sides t stamp r flow side sinks → Sides t stamp r (flow ++ rest) side sinks
sides_longer {t} flow rest side sinks long known =
    record {
      answer_is = known.answer_is;
      flow_is = take-append-le (arcs t) flow rest (omega arith) ∙ known.flow_is;
      side_is = known.side_is;
      sinks_are = known.sinks_are;
    }

-- The lists are long enough.
pub record Roomy (sides sinks places : List ℕ) (sources_room sinks_room places_room : ℕ) : Type 0 where
  pub for_sources : length sides ≤ sources_room
  pub for_sinks : length sinks ≤ sinks_room
  pub for_places : length places ≤ places_room

-- The test for room says so.
pub lists_roomy : (sides sinks places : List ℕ) (sources_room sinks_room places_room : ℕ)
    → has_lists sides sinks places sources_room sinks_room places_room ≡ true → Roomy sides sinks places sources_room sinks_room places_room
unfolding has_lists
lists_roomy sides sinks places sources_room sinks_room places_room e =
    let (a, rest) = both_true _ _ e in
    let (b, c) = both_true _ _ rest in
    record { for_sources = leb-true _ _ a; for_sinks = leb-true _ _ b; for_places = leb-true _ _ c }

module _ (sides sinks places : List ℕ) (sources_room sinks_room places_room a b c : ℕ) (first : a ≡ length sides) where
  -- The source side does not fit,
  pub lists_first : sources_room < a → false ≡ has_lists sides sinks places sources_room sinks_room places_room
  unfolding has_lists
  lists_first short = rw (← first, lt-leb a sources_room short)

  module _ (fits : a ≤ sources_room) (second : b ≡ length sinks) where
    -- or the nodes that reach the sink do not,
    pub lists_second : sinks_room < b → false ≡ has_lists sides sinks places sources_room sinks_room places_room
    unfolding has_lists
    lists_second short = rw (← first, le-leb a sources_room fits, ← second, lt-leb b sinks_room short)

    -- or the places decide.
    pub lists_third : b ≤ sinks_room → c ≡ length places → leb c places_room ≡ has_lists sides sinks places sources_room sinks_room places_room
    unfolding has_lists
    lists_third also third = rw (← first, le-leb a sources_room fits, ← second, le-leb b sinks_room also, ← third)
