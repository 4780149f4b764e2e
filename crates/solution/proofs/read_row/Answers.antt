-- `read_row` meets its contract: the row holds what was found, or a line stopped it.
use native.Mathlib.Omega.{arith}
use Rattle.solution.proofs.Reading.{found_stop, found_all}
use mathlib.Core.Path.{ap, ◌∙◌}
use Rattle.table.specs.declared.Refusal.{Refusal}
use Rattle.table.specs.Refusals.{number_of}
use Rattle.solution.specs.Reading.{back_with}
use Rattle.solution.proofs.read_row.Goals as goal

pub returns-in-Err : goal.returns-in-Err
returns-in-Err c = let a = c.args in
    found_stop _ _ _ _ c.read_flows.ensures a.value a.flow.now c.in-Err.fault c.into.result c.in-Err.is (c.into.ensures ∙ ap (λ (r : Refusal). back_with (number_of r.name) r.place 0) c.at.ensures)

pub returns-in-Ok : goal.returns-in-Ok
returns-in-Ok c =
    let a = c.args in
    found_all _ _ _ _ c.read_flows.ensures a.value a.flow.now c.from.result _ c.in-Ok.is (omega arith) (omega arith) c.from.ensures c.store.ensures
