-- `check_text` meets its contract: a line is at fault, or the lines say a value.
use mathlib.Core.Path.{refl, sym, ap, ◌∙◌}
use Rattle.table.specs.Table.{table_of, table_in}
use Rattle.scan.specs.Parts.{lines}
use Rattle.amounts.specs.Lines.{amounts_of}
use Rattle.sharing.specs.Full.{Full}
use Rattle.plan.proofs.Deciding.{flags_from}
use Rattle.plan.proofs.Answering.{answers_fault, answers_says}
use Rattle.table.specs.declared.Refusal.{Refusal}
use Rattle.table.specs.Refusals.{number_of}
use Rattle.plan.specs.Checking.{checked_with}
use Rattle.plan.proofs.check_text.Goals as goal

pub returns-in-Err : goal.returns-in-Err
returns-in-Err c = let a = c.args in
    answers_fault (table_in a.table.now) a.text.now a.side.now _ c.in-Err.fault (sym c.judge_lines.ensures ∙ c.in-Err.is) (c.into.ensures ∙ ap (λ (r : Refusal). checked_with (number_of r.name) r.place 0) c.at.ensures)

pub returns-in-Ok : goal.returns-in-Ok
returns-in-Ok c = let a = c.args in
    answers_says (table_in a.table.now) a.text.now a.side.now _ c.in-Ok.value (sym c.judge_lines.ensures ∙ c.in-Ok.is) refl (flags_from (Full (table_in a.table.now) c.in-Ok.value (amounts_of (lines a.text.now)) a.side.now) c.is_full.result _ c.is_full.ensures c.from.ensures)
