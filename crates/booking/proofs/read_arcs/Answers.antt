-- `read_arcs` meets its contract: the arc bytes and the flow bytes are read into rows.
use Prim.Native.Nat.{ℕ, ◌+◌, ◌*◌, ◌/◌, ◌≤◌}
use mathlib.Core.Path.{refl, sym, ap₂, ◌∙◌}
use mathlib.Core.List.{List}
use native.Mathlib.Omega.{arith}
use lib.ListN.{length}
use Rattle.minimums.specs.BoundedTable.{BoundedTable}
use Rattle.wire.proofs.Sizes.{Sized, sized, arc_length, column_front, columns_table}
use Rattle.wire.proofs.Telling.{without_minimums_lem}
use Rattle.wire.specs.Rows.{arc_table}
use Rattle.planner.specs.Reading.{reading}
use borrow.Author.Rules.{rules}
use lib.Seq.{length-take-le}
use Rattle.booking.proofs.read_arcs.Goals as goal

pub get_column-requires : goal.get_column-requires
get_column-requires c =
    let many : ℕ = length c.args.arcs.now / 12 in
    let small : Sized c.args.n ((length c.args.arcs.now + 11) / 12) many many = sized _ _ _ _ _ _ c.requires.t_value in
    let room : (many ≤ 4096) × (12 * many ≤ length c.args.arcs.now) = (small.few_arcs, omega arith) in
    record {
      step_bound = (search rules, room.0, search rules);
      count_in_bounds = (room.1, search (rules, room.0));
    }

pub get_column-requires-2 : goal.get_column-requires-2
get_column-requires-2 c =
    let many : ℕ = length c.args.arcs.now / 12 in
    let small : Sized c.args.n ((length c.args.arcs.now + 11) / 12) many many = sized _ _ _ _ _ _ c.requires.t_value in
    let room : (many ≤ 4096) × (12 * many ≤ length c.args.arcs.now) = (small.few_arcs, omega arith) in
    record {
      step_bound = (search rules, room.0, search rules);
      count_in_bounds = (room.1, search (rules, room.0));
    }

pub get_column-requires-3 : goal.get_column-requires-3
get_column-requires-3 c =
    let many : ℕ = length c.args.arcs.now / 12 in
    let small : Sized c.args.n ((length c.args.arcs.now + 11) / 12) many many = sized _ _ _ _ _ _ c.requires.t_value in
    let room : (many ≤ 4096) × (12 * many ≤ length c.args.arcs.now) = (small.few_arcs, omega arith) in
    record {
      step_bound = (search rules, room.0, search rules);
      count_in_bounds = (room.1, search (rules, room.0));
    }

pub get_column-requires-4 : goal.get_column-requires-4
get_column-requires-4 c =
    let many : ℕ = length c.args.arcs.now / 12 in
    let small : Sized c.args.n ((length c.args.arcs.now + 11) / 12) many many = sized _ _ _ _ _ _ c.requires.t_value in
    let room : (many ≤ 4096) × (12 * many ≤ length c.args.arcs.now) = (small.few_arcs, omega arith) in
    record {
      step_bound = (search rules, room.0, search rules);
      count_in_bounds = (c.requires.arcs_in_bounds, search (rules, room.0));
    }

pub slice_bounds-tails-end : goal.slice_bounds-tails-end
slice_bounds-tails-end c = let few = (sized _ _ _ _ _ _ c.requires.t_value).few_arcs in search (rules, few)

pub slice_bounds-bounded-end : goal.slice_bounds-bounded-end
slice_bounds-bounded-end c = let few = (sized _ _ _ _ _ _ c.requires.t_value).few_arcs in sym (length-take-le _ _ (search (rules, few)))

pub slice_bounds-heads-end : goal.slice_bounds-heads-end
slice_bounds-heads-end c = let few = (sized _ _ _ _ _ _ c.requires.t_value).few_arcs in search (rules, few)

pub slice_bounds-bounded-end-2 : goal.slice_bounds-bounded-end-2
slice_bounds-bounded-end-2 c = let few = (sized _ _ _ _ _ _ c.requires.t_value).few_arcs in sym (length-take-le _ _ (search (rules, few)))

pub slice_bounds-capacities-end : goal.slice_bounds-capacities-end
slice_bounds-capacities-end c = let few = (sized _ _ _ _ _ _ c.requires.t_value).few_arcs in search (rules, few)

pub slice_bounds-bounded-end-3 : goal.slice_bounds-bounded-end-3
slice_bounds-bounded-end-3 c = let few = (sized _ _ _ _ _ _ c.requires.t_value).few_arcs in sym (length-take-le _ _ (search (rules, few)))

pub slice_bounds-minimums-end : goal.slice_bounds-minimums-end
slice_bounds-minimums-end c = let few = (sized _ _ _ _ _ _ c.requires.t_value).few_arcs in search (rules, few)

pub slice_bounds-bounded-end-4 : goal.slice_bounds-bounded-end-4
slice_bounds-bounded-end-4 c = let few = (sized _ _ _ _ _ _ c.requires.t_value).few_arcs in sym (length-take-le _ _ (search (rules, few)))

pub slice_bounds-flows-end : goal.slice_bounds-flows-end
slice_bounds-flows-end c = let few = (sized _ _ _ _ _ _ c.requires.t_value).few_arcs in search (rules, few)

pub slice_bounds-read_place-end : goal.slice_bounds-read_place-end
slice_bounds-read_place-end c = let few = (sized _ _ _ _ _ _ c.requires.t_value).few_arcs in sym (length-take-le _ _ (search (rules, few)))

pub returns : goal.returns
returns c =
    let many : ℕ = length c.args.arcs.now / 12 in
    let small : Sized c.args.n ((length c.args.arcs.now + 11) / 12) many many = sized _ _ _ _ _ _ c.requires.t_value in
    let room : (many ≤ 4096) × (12 * many ≤ length c.args.arcs.now) = (small.few_arcs, omega arith) in
    let given = c.args in
    c.read_place.ensures
    ∙ ap₂ (λ (b : BoundedTable) (flow : List ℕ). reading b given.stamp given.answer flow given.side.now given.place)
    (without_minimums_lem many (arc_table given.n given.s given.t given.arcs.now) room.0
    (sym (arc_length 8 many given.arcs.now))
    (columns_table given.n given.s given.t many given.arcs.now refl small.tails_same (column_front _ many _ _ c.get_column.ensures) (column_front _ many _ _ c.get_column-2.ensures) (column_front _ many _ _ c.get_column-3.ensures)))
    (column_front _ many _ _ c.get_column-4.ensures)
