-- `walk` meets its contract. The loop's invariant: the first p places are there, and the chain goes on from node i.
use Prim.Native.Nat.{◌<◌}
use mathlib.Core.Path.{◌≡◌, sym, ◌∙◌}
use native.Mathlib.Omega.{arith}
use Rattle.shortest.proofs.Ends.{rows_ends}
use Rattle.augment.proofs.Pouring.{residual_picked}
use Rattle.augment.proofs.Extending.{source_label, walked_above}
use Rattle.rows.proofs.Rows.{node_at}
use Rattle.augment.proofs.Walking.{walking_turn, walking_stuck, walking_there, walking_done}
use Rattle.shortest.specs.Rows.{bounded_network}
use Rattle.minimums.specs.BoundedTable.{bounded_in}
use Rattle.augment.proofs.walk.Goals as goal

pub returns-then-table-k-clause-walked : goal.returns-then-table-k-clause-walked
returns-then-table-k-clause-walked c =
    walking_stuck (rows_ends c.requires.ready.rows) c.loop-d.invariant.0 c.loop-d-test.true c.leave_by-k.ensures.place c.if-table-k.true c.leave_by-k.ensures.noted

pub loop-d-preserved : goal.loop-d-preserved
loop-d-preserved c =
    let given = c.args in
    let so = c.loop-d in
    let here = c.if-table-k.false in (
      walking_turn (rows_ends c.requires.ready.rows) so.invariant.0 c.loop-d-test.true c.leave_by-k.ensures.place
          (omega (arith, c.requires.lowest_len.2, (source_label c.requires.ready c.requires.known.labels).1)) here c.leave_by-k.auto.lowest c.leave_by-k.auto.far c.leave_by-k.ensures.noted
          (c.residual_at.ensures.residual ∙ residual_picked (bounded_network (bounded_in given.bounded)) given.flow.now 0 so.i c.leave_by-k.result)
          c.min-least.ensures (sym (node_at _ so.i so.invariant.0.node.0) ∙ c.leave_by-k.ensures.far here),
      λ _. c.residual_at.ensures.fits,
    )

pub returns : goal.returns
returns c =
    let so = c.loop-d.invariant.0 in
    let low = c.requires.known.labels in
    let end : c.loop-d.d ≡ 0 = omega (arith, c.loop-d-test.false) in
    let away = (source_label c.requires.ready low).0 in
    let some : 0 < c.loop-d.p = omega (arith, so.count) in
    let done = walking_done so end c.requires.ready.valid (c.loop-d.invariant.1 some) away in record {
      walked = done;
      dead_end = λ none. absurd (omega (arith, none, walked_above c.requires.ready c.requires.known done (walking_there so end)));
    }
