-- `search_list` meets its contract: the parts handed to the search are node i's list and its far ends, and nothing before where it begins is eligible.
use Prim.Native.Nat.{ℕ}
use Rattle.rows.specs.Row.{Node, at_place}
use Rattle.table.specs.Table.{table_in}
use Rattle.run.specs.Push.{eligible}
use Rattle.steps.specs.Rows.{Beside, FarEnds, SpotIs}
use Rattle.arcs.specs.Work.{excess_part}
use Rattle.arcs.proofs.Work.{length_labels}
use Rattle.work.specs.Held.{state_in}
use Rattle.work.proofs.Stepping.{list_short}
use Rattle.work.proofs.Beside.{beside}
use lib.ListN.{length}
use native.Mathlib.Omega.{arith}
use mathlib.Core.List.{List}
use mathlib.Core.Path.{refl, ap, sym, ◌∙◌, subst, subst⁻¹}
use Rattle.work.proofs.search_list.Goals as goal

pub search-requires : goal.search-requires
search-requires c =
    let given = c.args in
    let table = table_in given.table.now in
    let long = length_labels given.table.now.nodes given.work.now (omega (arith, c.requires.in_work.0.room)) in
    let same = c.node_list.ensures table c.requires.in_work.0 refl refl in
    let are = c.node_ends.ensures table c.requires.in_work.0 refl c.requires.in_work.1 in
    let stand : Beside (length given.table.now.capacities.now) given.table.now.nodes c.node_list.result.now c.node_ends.result.now =
    subst⁻¹ (λ (l : List ℕ). Beside (length given.table.now.capacities.now) given.table.now.nodes l c.node_ends.result.now) same
    (beside table given.i c.node_ends.result.now c.requires.arc_rows.0 are.0 are.1) in record {
      tails_len = (sym c.requires.arc_rows.0.capacities_long, c.requires.arc_rows.1);
      node = subst⁻¹ (λ (m : ℕ). Node m given.i × Beside (length given.table.now.capacities.now) m c.node_list.result.now c.node_ends.result.now) long (c.requires.arc_rows.2, stand);
      from_in_bounds = (
        omega (arith, c.at_node.ensures, ap (λ (l : List ℕ). length l) same, c.requires.looked.within given.i c.requires.arc_rows.2),
        omega (arith, ap (λ (l : List ℕ). length l) same, list_short table given.i c.requires.arc_rows.0),
      );
    }

pub returns : goal.returns
returns c =
    let given = c.args in
    let table = table_in given.table.now in
    let st = state_in given.table.now.nodes given.flow.now given.work.now in
    let same = c.node_list.ensures table c.requires.in_work.0 refl refl in
    subst (λ (l : List ℕ). SpotIs table st given.i l c.search.result) same
    (c.search.ensures table.nodes table.source table.sink table.heads (excess_part given.table.now.nodes given.work.now)
    (subst⁻¹ (λ (l : List ℕ). FarEnds table given.i l c.node_ends.result.now) same (c.node_ends.ensures table c.requires.in_work.0 refl c.requires.in_work.1).1)
    (λ j l. ap (λ (row : List ℕ). eligible table st given.i (at_place row j)) same ∙ c.requires.looked.none given.i c.requires.arc_rows.2 j (omega (arith, c.at_node.ensures))))
