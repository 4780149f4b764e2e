-- `serve_arcs` meets its contract: the arc bytes are read into three rows.
use Prim.Native.Nat.{ℕ, ◌+◌, ◌*◌, ◌/◌, ◌≤◌}
use mathlib.Core.Path.{refl, sym, ap, ◌∙◌}
use native.Mathlib.Omega.{arith}
use lib.ListN.{length}
use Rattle.table.specs.Table.{Table}
use Rattle.wire.proofs.Sizes.{Sized, sized, column_front, columns_table}
use Rattle.wire.specs.Solve.{serving}
use borrow.Author.Rules.{rules}
use lib.Seq.{length-take-le}
use Rattle.booking.proofs.serve_arcs.Goals as goal

pub get_column-requires : goal.get_column-requires
get_column-requires c =
    let many : ℕ = length c.args.arcs.now / 12 in
    let small : Sized c.args.n ((length c.args.arcs.now + 11) / 12) many many = sized _ _ _ _ _ _ c.requires in
    let room : (many ≤ 4096) × (12 * many ≤ length c.args.arcs.now) = (small.few_arcs, omega arith) in
    record {
      step_bound = (search rules, room.0, search rules);
      count_in_bounds = (room.1, search (rules, room.0));
    }

pub get_column-requires-2 : goal.get_column-requires-2
get_column-requires-2 c =
    let many : ℕ = length c.args.arcs.now / 12 in
    let small : Sized c.args.n ((length c.args.arcs.now + 11) / 12) many many = sized _ _ _ _ _ _ c.requires in
    let room : (many ≤ 4096) × (12 * many ≤ length c.args.arcs.now) = (small.few_arcs, omega arith) in
    record {
      step_bound = (search rules, room.0, search rules);
      count_in_bounds = (room.1, search (rules, room.0));
    }

pub get_column-requires-3 : goal.get_column-requires-3
get_column-requires-3 c =
    let many : ℕ = length c.args.arcs.now / 12 in
    let small : Sized c.args.n ((length c.args.arcs.now + 11) / 12) many many = sized _ _ _ _ _ _ c.requires in
    let room : (many ≤ 4096) × (12 * many ≤ length c.args.arcs.now) = (small.few_arcs, omega arith) in
    record {
      step_bound = (search rules, room.0, search rules);
      count_in_bounds = (room.1, search (rules, room.0));
    }

pub slice_bounds-tails-end : goal.slice_bounds-tails-end
slice_bounds-tails-end c = let few = (sized _ _ _ _ _ _ c.requires).few_arcs in search (rules, few)

pub slice_bounds-table-end : goal.slice_bounds-table-end
slice_bounds-table-end c = let few = (sized _ _ _ _ _ _ c.requires).few_arcs in sym (length-take-le _ _ (search (rules, few)))

pub slice_bounds-heads-end : goal.slice_bounds-heads-end
slice_bounds-heads-end c = let few = (sized _ _ _ _ _ _ c.requires).few_arcs in search (rules, few)

pub slice_bounds-table-end-2 : goal.slice_bounds-table-end-2
slice_bounds-table-end-2 c = let few = (sized _ _ _ _ _ _ c.requires).few_arcs in sym (length-take-le _ _ (search (rules, few)))

pub slice_bounds-capacities-end : goal.slice_bounds-capacities-end
slice_bounds-capacities-end c = let few = (sized _ _ _ _ _ _ c.requires).few_arcs in search (rules, few)

pub slice_bounds-table-end-3 : goal.slice_bounds-table-end-3
slice_bounds-table-end-3 c = let few = (sized _ _ _ _ _ _ c.requires).few_arcs in sym (length-take-le _ _ (search (rules, few)))

pub returns : goal.returns
returns c =
    let many : ℕ = length c.args.arcs.now / 12 in
    let small : Sized c.args.n ((length c.args.arcs.now + 11) / 12) many many = sized _ _ _ _ _ _ c.requires in
    let given = c.args in
    c.serve_rows.ensures
    ∙ ap (λ (t : Table). serving t given.stamp given.flow.now given.side.now given.res.now)
    (columns_table given.n given.s given.t many given.arcs.now refl small.tails_same (column_front _ many _ _ c.get_column.ensures) (column_front _ many _ _ c.get_column-2.ensures) (column_front _ many _ _ c.get_column-3.ensures))
