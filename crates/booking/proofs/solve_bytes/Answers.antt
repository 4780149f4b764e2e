-- `solve_bytes` meets its contract: a refusal of sizes, or the table of the arc bytes.
use mathlib.Core.Path.{sym, ◌∙◌}
use Rattle.wire.specs.Rows.{arc_table}
use Rattle.wire.proofs.Sizes.{arc_sizes}
use Rattle.wire.proofs.Serving.{serves_sizes}
use Rattle.booking.proofs.solve_bytes.Goals as goal

pub serve_arcs-requires : goal.serve_arcs-requires
serve_arcs-requires c = sym c.sizes.ensures ∙ c.in-Ok.is

pub returns-in-Err : goal.returns-in-Err
returns-in-Err c =
    let given = c.args in
    serves_sizes (arc_table given.n given.s given.t given.arcs.now) given.stamp given.flow.now given.side.now given.res.now _ _
    (sym (arc_sizes given.n given.s given.t given.arcs.now) ∙ sym c.sizes.ensures ∙ c.in-Err.is) c.refused.ensures
