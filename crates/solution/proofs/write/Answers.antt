-- `write` meets its contract: a refusal writes nothing; else two texts stand one behind the other.
use Prim.Native.Nat.{ℕ}
use mathlib.Core.Path.{ap}
use Rattle.pen.proofs.Writing.{wrote_within}
use Rattle.minimums.specs.BoundedTable.{BoundedTable, bounded_of, bounded_in}
use Rattle.solution.specs.Writing.{written_with}
use Rattle.solution.proofs.Writing.{accepted_arcs, writes_fine, writing_refused, writing_fine}
use Rattle.solution.proofs.write.Goals as goal

pub put_flows-end-requires : goal.put_flows-end-requires
put_flows-end-requires c =
    let table : BoundedTable = let a = c.args in bounded_in a.bounded.now in
    let a = c.args in
    let w = writes_fine table a.value a.flow.now _ _ c.writing_verdict.ensures c.in-Ok.is in
    (wrote_within c.put_line-lines.ensures, (accepted_arcs table.table w.accepted a.flow.now w.room).0)

pub returns-in-Err : goal.returns-in-Err
returns-in-Err c =
    let table : BoundedTable = let a = c.args in bounded_in a.bounded.now in
    let a = c.args in
    writing_refused table a.value a.flow.now a.text.now _ c.writing_verdict.ensures _ _ _ c.in-Err.is c.into.ensures

pub returns-in-Ok : goal.returns-in-Ok
returns-in-Ok c =
    let table : BoundedTable = let a = c.args in bounded_in a.bounded.now in
    let a = c.args in
    writing_fine table a.value a.flow.now a.text.now _ c.writing_verdict.ensures _ _ _ _ c.in-Ok.is c.put_line-lines.ensures c.put_flows-end.ensures
