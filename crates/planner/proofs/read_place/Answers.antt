-- `read_place` meets its contract: the first refusal, or what stands at the place.
use Rattle.minimums.specs.BoundedTable.{BoundedTable, bounded_of, bounded_in}
use Rattle.planner.proofs.Readings.{refused_reading, fine_reading, fine_readable}
use Rattle.planner.proofs.read_place.Goals as goal

pub read_at-requires : goal.read_at-requires
read_at-requires c =
    let table : BoundedTable = bounded_in c.args.bounded.now in
    let given = c.args in
    let may = fine_readable table given.stamp given.answer given.flow.now given.side.now given.place _ c.reading_verdict.ensures c.in-Ok.is in record {
      accepted = may.accepted;
      capacities_in_bounds = (may.flows, may.marks, may.inside);
    }

pub returns-in-Err : goal.returns-in-Err
returns-in-Err c =
    let table : BoundedTable = bounded_in c.args.bounded.now in
    let given = c.args in
    refused_reading table given.stamp given.answer given.flow.now given.side.now given.place _ c.reading_verdict.ensures _ _ c.in-Err.is c.into.result c.into.ensures

pub returns-in-Ok : goal.returns-in-Ok
returns-in-Ok c =
    let table : BoundedTable = bounded_in c.args.bounded.now in
    let given = c.args in
    fine_reading table given.stamp given.answer given.flow.now given.side.now given.place _ c.reading_verdict.ensures c.in-Ok.is c.read_at.result c.read_at.ensures
