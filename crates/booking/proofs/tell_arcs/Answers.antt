-- `tell_arcs` meets its contract: ROOM, or what the library's own call reads.
use Prim.Native.Nat.{◌/◌}
use mathlib.Core.Path.{◌≡◌, sym, ◌∙◌, ap}
use lib.ListN.{length}
use Rattle.table.specs.Table.{Table, arcs}
use Rattle.wire.specs.Rows.{arc_table}
use Rattle.wire.proofs.Sizes.{arc_length, arc_sizes, roomy}
use Rattle.wire.proofs.Telling.{tells_no_room, tells_own}
use Rattle.table.specs.declared.Refusal.{Refusal}
use Rattle.table.specs.Refusals.{number_of}
use Rattle.wire.specs.Rows.{returned_of}
use Rattle.booking.proofs.tell_arcs.Goals as goal

pub returns-then-not-has_byte_room : goal.returns-then-not-has_byte_room
returns-then-not-has_byte_room c =
    let table : Table = arc_table c.args.n c.args.s c.args.t c.args.arcs.now in
    let many : length c.args.arcs.now / 12 ≡ arcs table = sym (arc_length 8 (length c.args.arcs.now / 12) c.args.arcs.now) in
    let given = c.args in
    tells_no_room table given.stamp given.answer given.flow.now given.side.now given.place given.res.now
    (sym (arc_sizes given.n given.s given.t given.arcs.now) ∙ c.requires) many c.has_byte_room.ensures c.if-not-has_byte_room.true (c.refused.ensures ∙ ap (λ (r : Refusal). returned_of (number_of r.name) r.place) c.at.ensures)

pub read_arcs-found-requires : goal.read_arcs-found-requires
read_arcs-found-requires c = record {
  t_value = c.requires;
  arcs_in_bounds = (roomy 24 _ _ _ _ _ (sym c.has_byte_room.ensures ∙ c.if-not-has_byte_room.false)).0;
}

pub tell-requires : goal.tell-requires
tell-requires c =
    (roomy 24 _ _ _ _ _ (sym c.has_byte_room.ensures ∙ c.if-not-has_byte_room.false)).2

pub returns : goal.returns
returns c =
    let table : Table = arc_table c.args.n c.args.s c.args.t c.args.arcs.now in
    let many : length c.args.arcs.now / 12 ≡ arcs table = sym (arc_length 8 (length c.args.arcs.now / 12) c.args.arcs.now) in
    let given = c.args in
    tells_own table given.stamp given.answer given.flow.now given.side.now given.place given.res.now
    many (sym c.has_byte_room.ensures ∙ c.if-not-has_byte_room.false) c.read_arcs-found.ensures c.tell.ensures
