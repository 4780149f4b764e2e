-- `join_capacities` meets its contract: rows of zeros are lent for the sums.
use Rattle.joining.proofs.Adding.{zeros_asked, zeros_same}
use Rattle.joining.proofs.join_capacities.Goals as goal

pub sum_capacities-requires : goal.sum_capacities-requires
sum_capacities-requires c =
    let the_facts = zeros_asked c.requires.summable _ c.requires.row_len in record {
      summable = the_facts.0;
      leaving_len = the_facts.1.0;
      tallied = the_facts.1.1;
    }

pub returns : goal.returns
returns c =
    zeros_same c.requires.summable c.sum_capacities.ensures
