-- `write_lists` meets its contract: one list after the other.
use native.Mathlib.Omega.{arith}
use lib.ListN.{length}
use Rattle.openings.specs.Helping.{nodes_in, places_in}
use Rattle.openings.proofs.Sides.{Roomy, lists_roomy}
use Rattle.openings.proofs.write_lists.Goals as goal

pub list_nodes-in_sources-requires : goal.list_nodes-in_sources-requires
list_nodes-in_sources-requires c =
    let room : Roomy (nodes_in c.args.side.now) (nodes_in c.args.drains.now) (places_in c.args.side.now c.args.drains.now c.args.tails.now c.args.heads.now) (length c.args.sources.now) (length c.args.sinks.now) (length c.args.places.now) = lists_roomy _ _ _ _ _ _ c.requires.places_value in
    (c.requires.arc_ends.0.few_nodes, room.for_sources)

pub list_nodes-in_sinks-requires : goal.list_nodes-in_sinks-requires
list_nodes-in_sinks-requires c =
    let room : Roomy (nodes_in c.args.side.now) (nodes_in c.args.drains.now) (places_in c.args.side.now c.args.drains.now c.args.tails.now c.args.heads.now) (length c.args.sources.now) (length c.args.sinks.now) (length c.args.places.now) = lists_roomy _ _ _ _ _ _ c.requires.places_value in
    (omega (arith, c.requires.arc_ends.1, c.requires.arc_ends.0.few_nodes), room.for_sinks)

pub list_places-in_places-requires : goal.list_places-in_places-requires
list_places-in_places-requires c =
    let room : Roomy (nodes_in c.args.side.now) (nodes_in c.args.drains.now) (places_in c.args.side.now c.args.drains.now c.args.tails.now c.args.heads.now) (length c.args.sources.now) (length c.args.sinks.now) (length c.args.places.now) = lists_roomy _ _ _ _ _ _ c.requires.places_value in
    record {
      arc_ends = c.requires.arc_ends;
      heads_in_bounds = room.for_places;
    }

pub returns : goal.returns
returns c =
    record {
      openings_are = rw (c.list_nodes-in_sources.ensures.0, c.list_nodes-in_sinks.ensures.0, c.list_places-in_places.ensures.0);
      sources_are = c.list_nodes-in_sources.ensures.1;
      sinks_are = c.list_nodes-in_sinks.ensures.1;
      places_are = c.list_places-in_places.ensures.1;
    }
