-- `solve_records` meets its contract: solving the columns that all records fill is solving the records' table.
use Rattle.planner.specs.Solving.{signed_left}
use Rattle.records.proofs.Fronts.{promised}
use Rattle.records.proofs.solve_records.Goals as goal

pub returns : goal.returns
returns c =
    let a = c.args in
    promised a.n a.s a.t a.stamp a.arcs.now a.flow.now a.side.now a.work.now c.copy_arcs-row.ensures
    (signed_left c.solve_columns.result c.solve_columns.new.flow c.solve_columns.new.side c.solve_columns.new.work) c.solve_columns.ensures
