-- `measure` meets its contract. The loop's invariant: the nodes that have a distance are noted, and those before `at` are done with. The measure is what is left of the nodes.
use Prim.Native.Nat.{◌+◌, ◌-◌, ◌<◌}
use mathlib.Core.Path.{◌≡◌, refl, sym, ap, ◌∙◌, subst⁻¹}
use lib.ListN.{length, get_or, replicate}
use Rattle.rows.specs.Row.{at_place, at_node}
use Rattle.rows.proofs.Rows.{node_at}
use Rattle.arcs.specs.Residual.{list, Places}
use Rattle.arcs.proofs.Members.{list_places}
use Rattle.shortest.specs.Ways.{Ways}
use Rattle.measuring.specs.Visits.{ListOf}
use Rattle.measuring.specs.Noted.{front_of}
use Rattle.shortest.proofs.Ends.{Ends, rows_ends}
use Rattle.measuring.proofs.Lists.{listed}
use Rattle.measuring.proofs.Visiting.{Going, going_open, going_start, visit_turn, measured}
use Rattle.shortest.specs.Rows.{bounded_ways}
use Rattle.minimums.specs.BoundedTable.{bounded_in}
use Rattle.table.specs.Table.{table_in}
use Rattle.measuring.proofs.measure.Goals as goal

pub loop-at-init : goal.loop-at-init
loop-at-init c =
    rw (c.push.ensures.0, c.push.ensures.1)
    (going_start _ _ _ (rows_ends c.requires.rows) c.requires.node.0 c.args.todo.now (c.reset.ensures ∙ ap (λ l. replicate l c.args.bounded.table.nodes) c.requires.node.1) c.requires.node.2)

pub visit-requires : goal.visit-requires
visit-requires c =
    let ways : Ways = bounded_ways (bounded_in c.args.bounded) c.args.flow.now in
    let ends : Ends c.args.bounded.table.nodes ways = rows_ends c.requires.rows in
    let going : Going ways c.args.bounded.table.nodes c.args.bounded.table.sink c.loop-at.at (front_of c.loop-at.dist c.loop-at.noted) = c.loop-at.invariant in
    let level : c.loop-at.at < c.loop-at.noted.count → get_or c.loop-at.dist (get_or c.loop-at.noted.row.now c.loop-at.at 0 - 1) 0 + 1 ≡ at_node c.loop-at.dist (at_place c.loop-at.noted.row.now c.loop-at.at) + 1 = λ taken. ap (λ x. x + 1) (sym (node_at c.loop-at.dist (at_place c.loop-at.noted.row.now c.loop-at.at) (going.node c.loop-at.at taken).0)) in
    let own : c.node_list.result.now ≡ list (table_in c.args.bounded.table) (at_place c.loop-at.noted.row.now c.loop-at.at) = c.node_list.ensures (table_in c.args.bounded.table) c.requires.in_work refl refl in
    let taken = c.loop-at-test.true in record {
      rows = (c.requires.rows, going.long);
      places = (
        subst⁻¹ (Places (length c.args.bounded.table.capacities.now)) own (list_places (table_in c.args.bounded.table) _),
        going_open _ _ _ ends c.requires.node.0 taken going (level taken),
      );
    }

pub loop-at-preserved : goal.loop-at-preserved
loop-at-preserved c =
    let ways : Ways = bounded_ways (bounded_in c.args.bounded) c.args.flow.now in
    let ends : Ends c.args.bounded.table.nodes ways = rows_ends c.requires.rows in
    let going : Going ways c.args.bounded.table.nodes c.args.bounded.table.sink c.loop-at.at (front_of c.loop-at.dist c.loop-at.noted) = c.loop-at.invariant in
    let level : c.loop-at.at < c.loop-at.noted.count → get_or c.loop-at.dist (get_or c.loop-at.noted.row.now c.loop-at.at 0 - 1) 0 + 1 ≡ at_node c.loop-at.dist (at_place c.loop-at.noted.row.now c.loop-at.at) + 1 = λ taken. ap (λ x. x + 1) (sym (node_at c.loop-at.dist (at_place c.loop-at.noted.row.now c.loop-at.at) (going.node c.loop-at.at taken).0)) in
    let own : c.node_list.result.now ≡ list (table_in c.args.bounded.table) (at_place c.loop-at.noted.row.now c.loop-at.at) = c.node_list.ensures (table_in c.args.bounded.table) c.requires.in_work refl refl in
    let taken = c.loop-at-test.true in
    visit_turn _ _ _ ends c.requires.node.0 taken going (level taken)
    (subst⁻¹ (ListOf ways (at_place c.loop-at.noted.row.now c.loop-at.at)) own (listed c.requires.rows (at_place c.loop-at.noted.row.now c.loop-at.at)))
    c.visit.ensures

pub returns : goal.returns
returns c =
    let ways : Ways = bounded_ways (bounded_in c.args.bounded) c.args.flow.now in
    let ends : Ends c.args.bounded.table.nodes ways = rows_ends c.requires.rows in
    let going : Going ways c.args.bounded.table.nodes c.args.bounded.table.sink c.loop-at.at (front_of c.loop-at.dist c.loop-at.noted) = c.loop-at.invariant in
    measured _ _ _ ends c.requires.node.0 c.loop-at-test.false going
