-- `begin` meets its contract: the flow row, then the excess part, then the labels part.
use Prim.Native.Nat.{◌-◌, ◌≤◌}
use borrow.Rule.Slice.PartMut.{put_mid}
use Rattle.table.specs.Table.{table_in}
use Rattle.arcs.specs.Work.{starts_at}
use Rattle.arcs.proofs.Work.{length_excess, length_labels, excess_length, both_excess, both_labels, both_lists}
use Rattle.work.proofs.Stepping.{same_state, start_is}
use lib.ListN.{length}
use native.Mathlib.Omega.{arith}
use mathlib.Core.Path.{◌≡◌, refl, ◌∙◌}
use Rattle.work.proofs.begin.Goals as goal

pub returns : goal.returns
returns c =
    let given = c.args in
    let n = given.table.now.nodes in
    let excess = c.start_excess.new.excess in
    let labels = c.start_labels.new.labels in
    let excess_size : length excess ≡ n = c.start_excess.auto.excess ∙ length_excess n given.work.now c.requires.n_in_bounds.0 in
    let roomy : starts_at n ≤ length (put_mid 0 (n - 0) given.work.now excess) = omega (arith, excess_length n given.work.now excess c.requires.n_in_bounds.0 excess_size, c.requires.n_in_bounds.0) in
    let labels_size : length labels ≡ n = c.start_labels.auto.labels ∙ length_labels n (put_mid 0 (n - 0) given.work.now excess) roomy in
    record {
      work_value = same_state refl (both_excess n given.work.now excess labels c.requires.n_in_bounds.0 excess_size labels_size)
          (both_labels n given.work.now excess labels c.requires.n_in_bounds.0 excess_size labels_size)
          ∙ start_is (table_in given.table.now) given.flow.now c.start_flow.new.flow excess labels c.requires.n_in_bounds.1
          (c.start_flow.ensures n given.table.now.sink given.table.now.heads.now) c.start_excess.ensures
          (c.start_labels.ensures given.table.now.tails.now given.table.now.heads.now given.table.now.capacities.now);
      work_value_2 = both_lists n given.work.now excess labels c.requires.n_in_bounds.0 excess_size labels_size;
    }
