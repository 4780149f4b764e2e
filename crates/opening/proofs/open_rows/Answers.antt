-- `open_rows` meets its contract: the new capacities, then on from the flow.
use Rattle.std.proofs.Common.{ℕ, List, ap, ◌∙◌}
use Rattle.table.specs.Table.{table_of}
use Rattle.opening.specs.Opening.{went_on}
use Rattle.opening.proofs.Reopening.{rows_ask}
use Rattle.opening.proofs.open_rows.Goals as goal

pub open_capacity-requires : goal.open_capacity-requires
open_capacity-requires c = (c.requires.len.0, c.requires.opens.below)

pub go_on_rows-requires : goal.go_on_rows-requires
go_on_rows-requires c =
    let the_facts = rows_ask c.requires.opens c.requires.len.1 c.requires.len.2 c.requires.in_work c.open_capacity.ensures in record {
      accepted = the_facts.0;
      minimums_value = the_facts.1.0;
      in_work = the_facts.1.1.0;
      flow = the_facts.1.1.1.0;
      flow_len = the_facts.1.1.1.1;
    }

pub returns : goal.returns
returns c =
    let given = c.args in
    c.go_on_rows.ensures
    ∙ ap (λ (row : List ℕ). went_on (table_of given.bounded.now.table.nodes given.bounded.now.table.source given.bounded.now.table.sink given.bounded.now.table.tails.now given.bounded.now.table.heads.now row) given.stamp given.flow.now given.side.now given.work.now) c.open_capacity.ensures
