-- `solve_month` meets its contract: the checks of the whole call, then day after day. What holds of each day follows from the equation.
use Rattle.days.specs.Days.{days_in, Days, days_of}
use Rattle.days.proofs.Each.{refused_promise, fine_is_ready, fine_promise}
use Rattle.month.proofs.solve_month.Goals as goal

pub solve_days-requires : goal.solve_days-requires
solve_days-requires c =
    let days : Days = days_in c.args.days.now in
    let given = c.args in
    fine_is_ready days given.flow.now given.side.now given.work.now given.answers.now _ c.month_verdict.ensures c.in-Ok.is

pub returns-in-Err : goal.returns-in-Err
returns-in-Err c =
    let days : Days = days_in c.args.days.now in
    let given = c.args in
    let the_facts = refused_promise days given.flow.now given.side.now given.work.now given.answers.now _ c.month_verdict.ensures _ _ c.in-Err.is c.into.result c.into.ensures in record {
      exact = the_facts.0;
      each = the_facts.1;
    }

pub returns-in-Ok : goal.returns-in-Ok
returns-in-Ok c =
    let days : Days = days_in c.args.days.now in
    let given = c.args in
    let the_facts = fine_promise days given.flow.now given.side.now given.work.now given.answers.now _ c.month_verdict.ensures c.in-Ok.is _ c.solve_days.ensures c.month_sums.result c.month_sums.ensures in record {
      exact = the_facts.0;
      each = the_facts.1;
    }
