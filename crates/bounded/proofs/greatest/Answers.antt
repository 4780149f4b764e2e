-- `greatest` meets its contract: the minimums added, the lists, the chains filled, the minimums taken away for the marking, and the value.
use mathlib.Core.Path.{sym}
use Rattle.arcs.proofs.Work.{in_work_as_many}
use Rattle.bounded.proofs.GoingOn.{adds, ready, lists_asked, takes, sums, marks, leaves}
use Rattle.bounded.proofs.greatest.Goals as goal

pub add_minimums-requires : goal.add_minimums-requires
add_minimums-requires c =
    let the_facts = adds c.requires.solvable c.requires.above in record {
      minimums_in_bounds = the_facts.0;
      by_index = the_facts.1;
    }

pub fill_work-requires : goal.fill_work-requires
fill_work-requires c =
    lists_asked c.requires.solvable c.requires.above c.add_minimums.ensures _ c.requires.work_end_in_bounds

pub go_on-requires : goal.go_on-requires
go_on-requires c = record {
  ready = ready c.requires.solvable c.requires.above c.add_minimums.ensures;
  in_work = c.fill_work.ensures.listed _ _ _ c.requires.solvable.accepted.rows.arcs.capacities_long;
}

pub take_minimums-requires : goal.take_minimums-requires
take_minimums-requires c =
    let the_facts = takes c.requires.solvable c.requires.above c.add_minimums.ensures c.go_on.ensures in record {
      minimums_in_bounds = the_facts.0;
      by_index = the_facts.1;
    }

pub mark-requires : goal.mark-requires
mark-requires c =
    let asked = marks c.requires.solvable c.requires.above c.add_minimums.ensures c.go_on.ensures c.take_minimums.ensures in record {
      arc_rows = asked.0;
      by_index = (0, 0, in_work_as_many (c.fill_work.ensures.listed 0 0 _ c.requires.solvable.accepted.rows.arcs.capacities_long) c.args.spare.now (sym c.requires.above.spare_long));
      n_in_bounds = asked.1.1;
    }

pub net_out-requires : goal.net_out-requires
net_out-requires c =
    sums c.requires.solvable c.requires.above c.add_minimums.ensures c.go_on.ensures

pub returns : goal.returns
returns c =
    leaves c.requires.solvable c.requires.above c.add_minimums.ensures c.go_on.ensures c.take_minimums.ensures (c.mark.ensures _) c.net_out.ensures
