-- `list_nodes` meets its contract. The loop's invariant: the marked nodes up to k stand in the list, and are counted.
use Prim.Native.Nat.{suc, ◌+◌, ◌<◌}
use mathlib.Core.Path.{◌≡◌, refl}
use native.Mathlib.Omega.{arith}
use borrow.Author.Tests.{eq-eqb, ne_eqb}
use lib.ListN.{length}
use Rattle.rows.specs.Row.{at_place}
use Rattle.reach.specs.Side.{marked}
use Rattle.listing.specs.Passing.{passing}
use Rattle.listing.proofs.Listing.{passing_fewer, gathered_none, gathered_room, gathered_yes, gathered_no}
use Rattle.openings.proofs.list_nodes.Goals as goal
use Rattle.openings.proofs.list_nodes.Goals.{then-mark-eq1, else-mark-eq1}

pub loop-k-init : goal.loop-k-init
unfolding passing
loop-k-init c = gathered_none _ 1 _ refl

pub bounds-list-count : goal.bounds-list-count
bounds-list-count c =
    let marks = c.args.marks.now in
    gathered_room (marked marks) (suc c.loop-k.k) (suc (length marks)) _ _ _ c.loop-k.invariant (eq-eqb _ 1 c.if-mark-eq1.true) (omega arith) c.requires.1

pub overflow_add-count : goal.overflow_add-count
overflow_add-count c = omega (arith, c.requires.0, c.loop-k.invariant.counted, passing_fewer (marked c.args.marks.now) refl c.loop-k.k)

pub loop-k-preserved : goal.loop-k-preserved
loop-k-preserved c =
    let marks = c.args.marks.now in
    let k = c.loop-k.k in
    let room : at_place marks k ≡ 1 → c.loop-k.count < length c.loop-k.list = λ kept. gathered_room (marked marks) (suc k) (suc (length marks)) _ _ _ c.loop-k.invariant (eq-eqb _ 1 kept) (omega arith) c.requires.1 in
    let on : suc (k + 1) ≡ suc (suc k) = omega arith in
    elim c.if-mark-eq1.branch [
      | then-mark-eq1 w ↦ gathered_yes (marked marks) (suc k) _ _ _ (k + 1) _ _ _ on c.loop-k.invariant (eq-eqb _ 1 w.if-mark-eq1.true) (room w.if-mark-eq1.true) (omega arith) w.list-is w.count-is
      | else-mark-eq1 w ↦ gathered_no (marked marks) (suc k) _ _ _ _ _ _ on c.loop-k.invariant (ne_eqb _ 1 w.if-mark-eq1.false) w.list-is w.count-is
    ]

pub returns : goal.returns
returns c =
    let all : c.loop-k.k ≡ length c.args.marks.now = omega arith in
    (rw (← all) c.loop-k.invariant.counted, rw (← all) c.loop-k.invariant.filled)
