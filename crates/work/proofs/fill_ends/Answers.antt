-- `fill_ends` meets its contract. The loop's invariant: the far ends of the lists of the nodes before i stand one behind the other, and p is where they end.
use Prim.Native.Nat.{ℕ, ◌-◌, ◌+◌}
use native.Mathlib.Omega.{arith}
use mathlib.Core.Path.{◌≡◌, refl, sym, subst, subst⁻¹, ◌∙◌}
use lib.ListN.{length}
use Rattle.table.specs.Table.{Table, table_in}
use Rattle.arcs.specs.Residual.{list}
use Rattle.arcs.proofs.Joined.{joined_rises}
use Rattle.arcs.proofs.Members.{list_stands}
use Rattle.steps.specs.Rows.{AllTouch}
use Rattle.work.specs.Held.{FarTo}
use Rattle.work.proofs.Beside.{entries_long, none_joined, before_one_more, joined_on, filled_on}
use Rattle.work.proofs.fill_ends.Goals as goal

pub loop-i-init : goal.loop-i-init
loop-i-init c = (none_joined _, λ v j v_node l. absurd (omega arith))

pub put_ends-p-requires-clause-all_touch : goal.put_ends-p-requires-clause-all_touch
put_ends-p-requires-clause-all_touch c =
    let node : ℕ = c.loop-i.i in
    let T : Table = table_in c.args.table.now in
    let same = c.node_list.ensures T c.requires.arc_rows.1 refl refl in
    let stand : AllTouch (length c.args.table.now.tails.now) c.args.table.now.tails.now c.args.table.now.heads.now node c.node_list.result.now =
    subst⁻¹ (AllTouch (length c.args.table.now.tails.now) c.args.table.now.tails.now c.args.table.now.heads.now node) same
    (λ j l. (omega (arith, (list_stands T node j l).0, c.requires.arc_rows.0.capacities_long), (list_stands T node j l).1)) in (
      stand,
      omega (
        arith,
        joined_on T node c.loop-i.p c.loop-i.auto.i c.loop-i.invariant.0 c.node_list.result.now same,
        joined_rises (list T) node c.args.table.now.nodes (omega (arith, c.loop-i-test.true)),
        entries_long T c.args.work.now c.requires.arc_rows.1,
        c.requires.arc_rows.0.ends.few_arcs,
        c.requires.arc_rows.0.capacities_long,
        c.loop-i.auto.ends,
        c.requires.ends_len,
      ),
    )

pub loop-i-preserved : goal.loop-i-preserved
loop-i-preserved c =
    let T : Table = table_in c.args.table.now in
    let node : ℕ = c.loop-i.i in
    let same = c.node_list.ensures T c.requires.arc_rows.1 refl refl in
    let before = c.loop-i.invariant in
    let back : node + 1 - 1 ≡ node = omega arith in (
      c.put_ends-p.ensures.value.0 ∙ joined_on T node c.loop-i.p c.loop-i.auto.i before.0 c.node_list.result.now same ∙ sym (before_one_more (list T) node),
      subst⁻¹ (λ (x : ℕ). FarTo T x c.put_ends-p.new.ends) back
          (filled_on T node c.loop-i.p c.loop-i.auto.i before.0 c.node_list.result.now same c.loop-i.ends c.put_ends-p.new.ends before.1 c.put_ends-p.ensures.value.1
          (c.put_ends-p.ensures.by_index_2 T.nodes T.source T.sink T.capacities)),
    )

pub returns-2 : goal.returns-2
returns-2 c =
    let T : Table = table_in c.args.table.now in
    let node : ℕ = c.loop-i.i in
    let same = c.node_list.ensures T c.requires.arc_rows.1 refl refl in
    let before = c.loop-i.invariant in
    let last : node ≡ c.args.table.now.nodes = omega arith in
    record {
      room = omega (
        arith,
        entries_long T c.args.work.now c.requires.arc_rows.1,
        c.requires.arc_rows.0.ends.few_arcs,
        c.requires.arc_rows.0.capacities_long,
        c.loop-i.auto.ends,
        c.put_ends-p.auto.ends,
        c.requires.ends_len,
      );
      far_is = subst (λ (x : ℕ). FarTo T x c.put_ends-p.new.ends) last
          (filled_on T node c.loop-i.p c.loop-i.auto.i before.0 c.node_list.result.now same c.loop-i.ends c.put_ends-p.new.ends before.1 c.put_ends-p.ensures.value.1
          (c.put_ends-p.ensures.by_index_2 T.nodes T.source T.sink T.capacities));
    }
