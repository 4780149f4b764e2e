-- `step` meets its contract: a push along the place found, or else a relabel; and how far the list was looked through is put down.
use Rattle.std.specs.Prelude.{Some}
use Prim.Native.Nat.{ℕ, ◌-◌, ◌<◌}
use Rattle.table.specs.Table.{Table, table_in}
use Rattle.arcs.specs.Residual.{list}
use Rattle.run.specs.Start.{State}
use Rattle.arcs.proofs.Members.{list_stands}
use Rattle.steps.specs.Rows.{SpotIs}
use Rattle.steps.specs.declared.Spot.{Spot}
use Rattle.steps.proofs.Searching.{far_node}
use Rattle.arcs.specs.Work.{looked_part}
use Rattle.arcs.proofs.Work.{lists_kept, looked_kept, lists_on}
use Rattle.work.specs.Held.{state_in}
use Rattle.work.proofs.Stepping.{same_state}
use Rattle.work.proofs.Advancing.{stepped_push, stepped_relabel}
use lib.ListN.{length, set}
use mathlib.Core.List.{List}
use mathlib.Core.Path.{refl, ap, ◌∙◌, subst, subst⁻¹}
use Rattle.work.proofs.step.Goals as goal

pub returns-in-Some : goal.returns-in-Some
returns-in-Some c =
    let table : Table = table_in c.args.table.now in
    let state : State = state_in c.args.table.now.nodes c.args.flow.now c.args.work.now in
    let spot : SpotIs table state c.args.i (list table c.args.i) c.search_list.result = c.search_list.ensures in
    let at : Spot = c.in-Some.spot in
    let spot_at : SpotIs table state c.args.i (list table c.args.i) (Some at) = subst (SpotIs table state c.args.i (list table c.args.i)) c.in-Some.is spot in
    let below : at.place < length c.args.table.now.capacities.now = subst⁻¹ (λ (k : ℕ). k < length c.args.table.now.capacities.now) spot_at.1 (list_stands table c.args.i at.position spot_at.0).0 in
    let given = c.args in
    let work_then = c.push_from-full.new.work in record {
      fact_2 = stepped_push table given.delta state given.counts given.i (looked_part given.table.now.nodes given.work.now) c.requires.arc_rows.0.ends.few_nodes c.requires.in_phase.0.fits c.requires.in_phase.1
          c.requires.fact.0 c.requires.fact.1 _ _ _ at c.push_from-full.result spot_at
          (far_node given.table.now.source given.table.now.sink given.i c.requires.arc_rows.0 below at.far spot_at.4)
          (same_state refl c.set_looked.ensures.work_value c.set_looked.ensures.work_value_2 ∙ c.push_from-full.ensures.work_value) c.push_from-full.ensures.value c.count_push.ensures
          (c.set_looked.ensures.work_value_3 ∙ ap (λ (row : List ℕ). set row (given.i - 1) at.position) (looked_kept given.table.now.nodes given.work.now work_then c.push_from-full.ensures.work_value_2));
      same_lists = lists_on (lists_kept given.table.now.nodes given.work.now work_then c.push_from-full.ensures.work_value_2) c.set_looked.ensures.same_lists;
    }

pub returns-in-None : goal.returns-in-None
returns-in-None c =
    let table : Table = table_in c.args.table.now in
    let state : State = state_in c.args.table.now.nodes c.args.flow.now c.args.work.now in
    let spot : SpotIs table state c.args.i (list table c.args.i) c.search_list.result = c.search_list.ensures in
    let given = c.args in
    let work_then = c.set_label.new.work in record {
      fact_2 = stepped_relabel table given.delta state given.counts given.i (looked_part given.table.now.nodes given.work.now) c.requires.arc_rows.0.ends.few_nodes c.requires.in_phase.0.fits c.requires.in_phase.1
          c.requires.fact.0 c.requires.fact.1 _ _ _ c.label_from_list-found.result
          (subst (SpotIs table state given.i (list table given.i)) c.in-None.is spot)
          c.label_from_list-found.ensures
          (same_state refl (c.set_looked-in-None.ensures.work_value ∙ c.set_label.ensures.work_value) (c.set_looked-in-None.ensures.work_value_2 ∙ c.set_label.ensures.work_value_2)) c.count_relabel.ensures
          (c.set_looked-in-None.ensures.work_value_3 ∙ ap (λ (row : List ℕ). set row (given.i - 1) c.label_from_list-found.result.at) (looked_kept given.table.now.nodes given.work.now work_then c.set_label.ensures.work_value_3));
      same_lists = lists_on (lists_kept given.table.now.nodes given.work.now work_then c.set_label.ensures.work_value_3) c.set_looked-in-None.ensures.same_lists;
    }
