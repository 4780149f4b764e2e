-- `write_small` meets its contract: nodes are listed and numbered, arcs are listed, and their rows are filled.
use Prim.Native.Nat.{ℕ, ◌≤◌}
use mathlib.Core.Path.{◌≡◌, ap, ◌∙◌, subst⁻¹}
use mathlib.Core.Bool.{Bool}
use mathlib.Core.List.{List, map}
use native.Mathlib.Omega.{arith}
use lib.ListN.{length, take}
use Rattle.rows.specs.Row.{at_place, at_node}
use Rattle.rows.proofs.Rows.{at_nodes}
use Rattle.table.specs.Accepted.{ArcEnds}
use Rattle.listing.specs.Passing.{passing, filled_with}
use Rattle.listing.proofs.Listing.{passing_few}
use Rattle.shrinking.specs.Smaller.{node_by, arc_by, up_to}
use Rattle.keeping.proofs.Keeping.{filled_front, passing_places, ends_numbered}
use Rattle.keeping.proofs.write_small.Goals as goal

pub fill_arcs-requires : goal.fill_arcs-requires
fill_arcs-requires c =
    let arc_test : ℕ → Bool = let args = c.args in arc_by args.ahead.now args.behind.now args.tails.now args.heads.now args.capacities.now in
    let numbers : List ℕ = c.number_nodes.new.numbers in
    let origins : List ℕ = c.list_arcs-arcs.new.list in
    let numbers_long : length numbers ≡ length c.args.ahead.now = c.number_nodes.auto.numbers ∙ c.requires.arc_ends.2 in
    let few : c.list_arcs-arcs.result ≤ length c.args.tails.now = omega (arith, c.list_arcs-arcs.ensures.0, passing_few arc_test (length c.args.tails.now)) in
    let front : take c.list_arcs-arcs.result origins ≡ passing arc_test (length c.args.tails.now) = filled_front (passing arc_test (length c.args.tails.now)) c.args.arcs_from.now origins c.list_arcs-arcs.result c.list_arcs-arcs.ensures.0 c.list_arcs-arcs.ensures.1 in
    let small = few in record {
      arc_ends = (
        subst⁻¹ (λ n. ArcEnds n c.args.tails.now c.args.heads.now) numbers_long c.requires.arc_ends.0,
        c.requires.arc_ends.3,
        omega (arith, c.requires.tails_in_bounds.4, c.list_arcs-arcs.auto.list),
        passing_places arc_test (length c.args.tails.now) _ front,
      );
      count_in_bounds = (omega (arith, c.requires.tails_in_bounds.0), omega (arith, c.requires.tails_in_bounds.1), omega (arith, c.requires.tails_in_bounds.2));
    }

pub returns : goal.returns
returns c =
    let node_test : ℕ → Bool = let args = c.args in node_by args.ahead.now args.behind.now args.s args.t in
    let arc_test : ℕ → Bool = let args = c.args in arc_by args.ahead.now args.behind.now args.tails.now args.heads.now args.capacities.now in
    let numbers : List ℕ = c.number_nodes.new.numbers in
    let origins : List ℕ = c.list_arcs-arcs.new.list in
    let front : take c.list_arcs-arcs.result origins ≡ passing arc_test (length c.args.tails.now) = filled_front (passing arc_test (length c.args.tails.now)) c.args.arcs_from.now origins c.list_arcs-arcs.result c.list_arcs-arcs.ensures.0 c.list_arcs-arcs.ensures.1 in
    let args = c.args in
    let n = length args.ahead.now in
    let m = length args.tails.now in
    record {
      nodes_are = c.list_kept-nodes.ensures.0;
      arcs_are = c.list_arcs-arcs.ensures.0;
      source_is = c.at_node.ensures ∙ ap (λ (l : List ℕ). at_node l args.s) c.number_nodes.ensures ∙ at_nodes (up_to node_test) n args.s c.requires.node.0;
      sink_is = c.at_node-2.ensures ∙ ap (λ (l : List ℕ). at_node l args.t) c.number_nodes.ensures ∙ at_nodes (up_to node_test) n args.t c.requires.node.1;
      tails_is = c.fill_arcs.ensures.small_tails_value ∙ ap (λ (l : List ℕ). filled_with l args.small_tails.now) (ends_numbered node_test arc_test n m numbers args.tails.now _ c.number_nodes.ensures front c.requires.arc_ends.0.tail_node);
      heads_is = c.fill_arcs.ensures.small_heads_value ∙ ap (λ (l : List ℕ). filled_with l args.small_heads.now) (ends_numbered node_test arc_test n m numbers args.heads.now _ c.number_nodes.ensures front c.requires.arc_ends.0.head_node);
      capacities_is = c.fill_arcs.ensures.small_capacities_value ∙ ap (λ (l : List ℕ). filled_with (map (λ (k : ℕ). at_place args.capacities.now k) l) args.small_capacities.now) front;
      nodes_from = c.list_kept-nodes.ensures.1;
      arcs_from = c.list_arcs-arcs.ensures.1;
    }
