-- `sum_capacities` meets its contract: both rows of sums, then the capacities.
use mathlib.Core.Path.{◌∙◌}
use native.Mathlib.Omega.{arith}
use Rattle.joining.proofs.Adding.{numbers, summed}
use Rattle.joining.proofs.sum_capacities.Goals as goal

pub fill_capacities-requires : goal.fill_capacities-requires
fill_capacities-requires c = record {
  numbers = numbers c.requires.summable c.tally.auto.sums (c.tally-2.auto.sums ∙ c.requires.leaving_len.0) c.tally.ensures c.tally-2.ensures;
  row_len = omega (arith, c.requires.leaving_len.1, c.tally.auto.sums);
}

pub returns : goal.returns
returns c =
    summed c.requires.summable c.tally.auto.sums (c.tally-2.auto.sums ∙ c.requires.leaving_len.0) c.tally.ensures c.tally-2.ensures _ c.requires.leaving_len.1 c.fill_capacities.ensures
