-- `mark_all` meets its contract: each marked node is noted or done with, and unmarked nodes twice and the nodes noted fall.
use mathlib.Core.Path.{◌≡◌, refl, ap, ◌∙◌, subst⁻¹}
use native.Mathlib.Omega.{arith}
use lib.ListN.{replicate}
use Rattle.table.specs.Table.{Table, table_in, arcs}
use Rattle.arcs.specs.Residual.{list, Places}
use Rattle.arcs.proofs.Members.{list_places}
use Rattle.reach.specs.Noted.{front_of}
use Rattle.reach.proofs.Marking.{mark}
use Rattle.reach.proofs.Visiting.{Walkable, rows_walkable, rows_among, visit_start, next_node, visit_turn, visited_side}
use Rattle.reach.proofs.mark_all.Goals as goal

pub loop-i-init : goal.loop-i-init
loop-i-init c =
    let table = c.args.table.now in
    rw (c.push.ensures.0, c.push.ensures.1)
    (visit_start _ _ (rows_walkable c.requires.arc_rows.0 table.source table.sink c.requires.arc_rows.2) _ c.args.todo.now
    (c.only.ensures ∙ ap (λ l. mark table.source (replicate l 0)) c.requires.side_len.0) c.requires.side_len.1)

pub pop-requires : goal.pop-requires
pop-requires c =
    let v = c.loop-i.invariant in
    omega (arith, v.room, v.long)

pub node_list-requires : goal.node_list-requires
node_list-requires c =
    let a = c.args in
    let table = a.table.now in
    let walkable : Walkable (table_in table) = rows_walkable c.requires.arc_rows.0 table.source table.sink c.requires.arc_rows.2 in
    let (some, row, count, last) = c.in-Some.ensures in
    (table_in table, c.requires.in_work, refl, refl, rw last (next_node _ a.flow.now walkable some c.loop-i.invariant))

pub visit-requires-clause-arc_rows : goal.visit-requires-clause-arc_rows
visit-requires-clause-arc_rows c =
    let t : Table = table_in c.args.table.now in
    let own : c.node_list.result.now ≡ list t c.in-Some.i = c.node_list.ensures t c.requires.in_work refl refl in
    (rows_among c.requires.arc_rows.0 c.loop-i.invariant.so.long, c.requires.arc_rows.1, subst⁻¹ (Places (arcs t)) own (list_places t _))

pub visit-requires-clause-count_in_bounds : goal.visit-requires-clause-count_in_bounds
visit-requires-clause-count_in_bounds c =
    let v = c.loop-i.invariant in
    let (some, row, count, last) = c.in-Some.ensures in
    rw row (omega (arith, v.room, v.long, some, count))

pub loop-i-smaller : goal.loop-i-smaller
loop-i-smaller c =
    let t : Table = table_in c.args.table.now in
    let walkable : Walkable t = rows_walkable c.requires.arc_rows.0 t.source t.sink c.requires.arc_rows.2 in
    let (some, row, count, last) = c.in-Some.ensures in
    let own : c.node_list.result.now ≡ list t c.in-Some.i = c.node_list.ensures t c.requires.in_work refl refl in
    (
    visit_turn t c.args.flow.now walkable some c.loop-i.invariant c.node_list.result.now (own ∙ ap (list t) last)
    (front_of c.visit.new.side c.visit.new.noted) (rw (row, count, last) at c.visit.ensures)
    ).1

pub loop-i-preserved : goal.loop-i-preserved
loop-i-preserved c =
    let t : Table = table_in c.args.table.now in
    let walkable : Walkable t = rows_walkable c.requires.arc_rows.0 t.source t.sink c.requires.arc_rows.2 in
    let (some, row, count, last) = c.in-Some.ensures in
    let own : c.node_list.result.now ≡ list t c.in-Some.i = c.node_list.ensures t c.requires.in_work refl refl in
    (
    visit_turn t c.args.flow.now walkable some c.loop-i.invariant c.node_list.result.now (own ∙ ap (list t) last)
    (front_of c.visit.new.side c.visit.new.noted) (rw (row, count, last) at c.visit.ensures)
    ).0

pub returns : goal.returns
returns c =
    let table = c.args.table.now in
    visited_side (table_in table) c.args.flow.now (rows_walkable c.requires.arc_rows.0 table.source table.sink c.requires.arc_rows.2)
    (omega arith) c.loop-i.invariant
