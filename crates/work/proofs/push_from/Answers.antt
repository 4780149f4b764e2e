-- `push_from` meets its contract: the excess part is lent, and comes back pushed.
use Rattle.arcs.specs.Work.{labels_part}
use Rattle.arcs.proofs.Work.{length_excess, excess_excess, excess_labels, excess_lists}
use Rattle.work.proofs.Stepping.{same_state, pushed_state}
use mathlib.Core.Path.{refl, ◌∙◌}
use Rattle.work.proofs.push_from.Goals as goal

pub returns : goal.returns
returns c =
    let given = c.args in
    let size = c.push.auto.excess ∙ length_excess given.table.now.nodes given.work.now c.requires.arc_rows.1 in
    let new = c.push.new.excess in
    let told = c.push.ensures given.table.now.nodes given.table.now.heads.now (labels_part given.table.now.nodes given.work.now) c.requires.fact.3 in record {
      work_value = same_state refl (excess_excess given.table.now.nodes given.work.now new c.requires.arc_rows.1 size) (excess_labels given.table.now.nodes given.work.now new c.requires.arc_rows.1 size)
          ∙ pushed_state told;
      value = told.full_is;
      work_value_2 = excess_lists given.table.now.nodes given.work.now new c.requires.arc_rows.1 size;
    }
