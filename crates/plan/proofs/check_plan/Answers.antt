-- `check_plan` meets its contract: what comes before the text is read, and then the text.
use Rattle.minimums.specs.BoundedTable.{BoundedTable, bounded_of, bounded_in}
use Rattle.plan.proofs.Answering.{plan_refused, plan_fine, plan_accepts}
use Rattle.plan.proofs.check_plan.Goals as goal

pub check_text-requires : goal.check_text-requires
check_text-requires c =
    let table : BoundedTable = let a = c.args in bounded_in a.bounded.now in
    let a = c.args in
    plan_accepts table a.text.now a.side.now _ c.text_verdict.ensures c.in-Ok.is

pub returns-in-Err : goal.returns-in-Err
returns-in-Err c =
    let table : BoundedTable = let a = c.args in bounded_in a.bounded.now in
    let a = c.args in
    plan_refused table a.text.now a.side.now _ c.text_verdict.ensures _ _ _ c.in-Err.is c.into.ensures

pub returns-in-Ok : goal.returns-in-Ok
returns-in-Ok c =
    let table : BoundedTable = let a = c.args in bounded_in a.bounded.now in
    let a = c.args in
    plan_fine table a.text.now a.side.now _ c.text_verdict.ensures _ c.in-Ok.is c.check_text.ensures
