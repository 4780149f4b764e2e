-- `fill_arcs` meets its contract: each row has the new number of an end, or the capacity.
use Rattle.rows.specs.Row.{at_node, at_place}
use Rattle.keeping.specs.contracts.fn.fill_arcs.fill_from as tails
use Rattle.keeping.specs.contracts.fn.fill_arcs.fill_from+2 as heads
use Rattle.keeping.specs.contracts.fn.fill_arcs.fill_from+3 as capacities
use Rattle.keeping.proofs.fill_arcs.Given as goal

abbrev pub ghost-fill_from : goal.ghost-fill_from
ghost-fill_from a = let held = tails.captures a.value in λ k. at_node held.numbers.now (at_place held.tails.now k)

abbrev pub ghost-fill_from-2 : goal.ghost-fill_from-2
ghost-fill_from-2 a = let held = heads.captures a.value in λ k. at_node held.numbers.now (at_place held.heads.now k)

abbrev pub ghost-fill_from-3 : goal.ghost-fill_from-3
ghost-fill_from-3 a = let held = capacities.captures a.value in at_place held.capacities.now
