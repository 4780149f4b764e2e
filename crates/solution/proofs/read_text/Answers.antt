-- `read_text` meets its contract: the first line is the value's, or it is at fault.
use mathlib.Core.Path.{sym, ap, ◌∙◌}
use Rattle.solution.proofs.Reading.{text_open, text_none, text_value}
use Rattle.table.specs.declared.Refusal.{Refusal}
use Rattle.table.specs.Refusals.{number_of}
use Rattle.solution.specs.Reading.{back_with}
use Rattle.solution.proofs.read_text.Goals as goal

pub returns-then-text-end : goal.returns-then-text-end
returns-then-text-end c = let a = c.args in
    text_open a.tails.now a.heads.now a.capacities.now a.text.now a.flow.now c.find-end.result c.find-end.ensures _ (c.into.ensures ∙ ap (λ (r : Refusal). back_with (number_of r.name) r.place 0) c.at.ensures) c.if-text-end.true

pub returns-in_default : goal.returns-in_default
returns-in_default c = let a = c.args in
    text_none a.tails.now a.heads.now a.capacities.now a.text.now a.flow.now c.find-end.result c.find-end.ensures _ (c.into-in_default.ensures ∙ ap (λ (r : Refusal). back_with (number_of r.name) r.place 0) c.at-in_default.ensures) c.if-text-end.false (sym c.number_behind-said.ensures ∙ c.in_default.is)

pub returns : goal.returns
returns c = let a = c.args in
    c.read_row.ensures ∙ text_value a.tails.now a.heads.now a.capacities.now a.text.now a.flow.now c.find-end.result c.find-end.ensures c.in-Some.value c.if-text-end.false (sym c.number_behind-said.ensures ∙ c.in-Some.is)
