-- `label_from_list` meets its contract: the parts handed on are node i's list and its far ends.
use Prim.Native.Nat.{ℕ}
use Rattle.table.specs.Table.{table_in}
use Rattle.looking.specs.Looked.{HighBefore}
use Rattle.steps.specs.Rows.{Beside, FarEnds}
use Rattle.arcs.specs.Work.{excess_part}
use Rattle.arcs.proofs.Work.{length_labels}
use Rattle.work.specs.Held.{state_in}
use Rattle.work.proofs.Stepping.{label_is, list_short}
use Rattle.work.proofs.Beside.{beside}
use lib.ListN.{length}
use native.Mathlib.Omega.{arith}
use mathlib.Core.List.{List}
use mathlib.Core.Path.{refl, ap, sym, subst, subst⁻¹}
use Rattle.work.proofs.label_from_list.Goals as goal

pub new_label-requires : goal.new_label-requires
new_label-requires c =
    let given = c.args in
    let table = table_in given.table.now in
    let long = length_labels given.table.now.nodes given.work.now (omega (arith, c.requires.in_work.0.room)) in
    let same = c.node_list.ensures table c.requires.in_work.0 refl refl in
    let are = c.node_ends.ensures table c.requires.in_work.0 refl c.requires.in_work.1 in
    let stand : Beside (length given.table.now.capacities.now) given.table.now.nodes c.node_list.result.now c.node_ends.result.now =
    subst⁻¹ (λ (l : List ℕ). Beside (length given.table.now.capacities.now) given.table.now.nodes l c.node_ends.result.now) same
    (beside table given.i c.node_ends.result.now c.requires.arc_rows.0 are.0 are.1) in record {
      tails_len = (sym c.requires.arc_rows.0.capacities_long, c.requires.arc_rows.1, omega (arith, long, c.requires.arc_rows.0.ends.few_nodes));
      beside = (
        subst⁻¹ (λ (m : ℕ). Beside (length given.table.now.capacities.now) m c.node_list.result.now c.node_ends.result.now) long stand,
        omega (arith, ap (λ (l : List ℕ). length l) same, list_short table given.i c.requires.arc_rows.0),
      );
    }

pub returns : goal.returns
returns c =
    let given = c.args in
    let table = table_in given.table.now in
    let st = state_in given.table.now.nodes given.flow.now given.work.now in
    let excess = excess_part given.table.now.nodes given.work.now in
    let long = length_labels given.table.now.nodes given.work.now (omega (arith, c.requires.in_work.0.room)) in
    let same = c.node_list.ensures table c.requires.in_work.0 refl refl in
    let found =
    c.new_label.ensures.by_index table.nodes table.source table.sink table.heads excess
    (subst⁻¹ (λ (l : List ℕ). FarEnds table given.i l c.node_ends.result.now) same (c.node_ends.ensures table c.requires.in_work.0 refl c.requires.in_work.1).1) in
    record {
      label_is = label_is table st given.i c.node_list.result.now _ long same found.0;
      within = omega (arith, c.new_label.ensures.at_in_bounds, ap (λ (l : List ℕ). length l) same);
      high = subst (λ (l : List ℕ). HighBefore table st given.i l c.new_label.result.at c.new_label.result.label) same found.1;
    }
