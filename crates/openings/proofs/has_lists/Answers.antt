-- `has_lists` meets its contract, test by test.
use native.Mathlib.Omega.{arith}
use Rattle.openings.proofs.Sides.{lists_first, lists_second, lists_third}
use Rattle.openings.proofs.has_lists.Goals as goal

pub count_nodes-requires : goal.count_nodes-requires
count_nodes-requires c = c.requires.0.few_nodes

pub returns-then-sources-count_nodes : goal.returns-then-sources-count_nodes
returns-then-sources-count_nodes c = lists_first _ _ _ _ _ _ _ 0 0 c.count_nodes.ensures c.if-sources-count_nodes.true

pub count_nodes-requires-2 : goal.count_nodes-requires-2
count_nodes-requires-2 c = omega (arith, c.requires.1, c.requires.0.few_nodes)

pub returns-then-sinks-count_nodes : goal.returns-then-sinks-count_nodes
returns-then-sinks-count_nodes c =
    lists_second _ _ _ _ _ _ _ _ 0 c.count_nodes.ensures c.if-sources-count_nodes.false c.count_nodes-2.ensures c.if-sinks-count_nodes.true

pub count_places-requires : goal.count_places-requires
count_places-requires c = c.requires

pub returns : goal.returns
returns c =
    lists_third _ _ _ _ _ _ _ _ _ c.count_nodes.ensures c.if-sources-count_nodes.false c.count_nodes-2.ensures c.if-sinks-count_nodes.false c.count_places.ensures
