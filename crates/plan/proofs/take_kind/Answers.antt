-- `take_kind` meets its contract: an `f` line has one amount, and another line none.
use mathlib.Core.Path.{sym, ◌∙◌}
use mathlib.Core.Bool.{true≢false}
use lib.Dec.{eqb}
use Rattle.plan.proofs.Amounts.{no_amount, one_amount, adds_nothing, takes_nothing, adds_amount, takes_amount}
use Rattle.plan.proofs.take_kind.Goals as goal

pub returns-in_default : goal.returns-in_default
returns-in_default c =
    let a = c.args in
    let none = no_amount a.kind c.in_default.not-FlowLine in record {
      outs = adds_nothing a.n a.out.now (λ i x. eqb x.tail i) _ none;
      intos = adds_nothing a.n a.into.now (λ i x. eqb x.head i) _ none;
      pairs = λ place p. (takes_nothing place a.room.now _ a.fits none, λ e. e);
    }

pub returns-else-fits : goal.returns-else-fits
returns-else-fits c =
    let a = c.args in
    let one = one_amount a.kind c.in-FlowLine.x c.in-FlowLine.is in record {
      outs = adds_amount a.n a.out.now c.add_at.new.row (λ i x. eqb x.tail i) _ _ one c.add_at.ensures;
      intos = adds_amount a.n a.into.now c.add_at-2.new.row (λ i x. eqb x.head i) _ _ one c.add_at-2.ensures;
      pairs = λ place p. (λ e. absurd (true≢false (sym e ∙ c.if-fits.false)), λ e. e);
    }

pub returns-then-fits : goal.returns-then-fits
returns-then-fits c =
    let a = c.args in
    let one = one_amount a.kind c.in-FlowLine.x c.in-FlowLine.is in record {
      outs = adds_amount a.n a.out.now c.add_at.new.row (λ i x. eqb x.tail i) _ _ one c.add_at.ensures;
      intos = adds_amount a.n a.into.now c.add_at-2.new.row (λ i x. eqb x.head i) _ _ one c.add_at-2.ensures;
      pairs = λ place p. (
        λ e. takes_amount place a.room.now c.take_pair.new.room _ _ c.take_pair.result one (c.take_pair.ensures place p),
        λ e. absurd (true≢false (sym c.if-fits.true ∙ e)),
      );
    }
