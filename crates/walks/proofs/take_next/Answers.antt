-- `take_next` meets its contract: what the walk found, with the least amount on it, is the next piece.
use Rattle.walks.proofs.Nexts.{start_node, took, took_away, ahead_without}
use Rattle.walks.proofs.take_next.Goals as goal

pub follow-trip-requires-clause-nodes_in_bounds : goal.follow-trip-requires-clause-nodes_in_bounds
follow-trip-requires-clause-nodes_in_bounds c = (
  c.requires.nodes_in_bounds.0,
  c.requires.nodes_in_bounds.2,
  start_node _ _ _ _ _ _ _ c.requires.ready.ends c.requires.nodes_in_bounds.3 c.requires.lowest_value.0 c.requires.lowest_value.1 c.start_at-start.ensures.value,
)

pub returns : goal.returns
returns c =
    let found = took _ _ _ _ _ _ _ _ _ _ _ _ _ c.start_at-start.ensures.value c.follow-trip.ensures.fact c.least_left-amount.ensures in
    let after = took_away _ _ _ _ _ _ _ _ _ _ _ _ found c.take_away.ensures in record {
      took = found;
      left_value = after;
      ahead = ahead_without c.args.tails.now c.args.left.now c.follow-trip.new.first _ _ c.follow-trip.ensures.ahead after;
    }
