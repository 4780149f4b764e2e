-- `has_room` meets its contract, test by test.
use borrow.Author.Tests.{le-leb, lt-leb}
use mathlib.Core.Path.{ap}
use Prim.Native.Nat.{ℕ}
use lib.Dec.{leb}
use Rattle.solver.specs.Solving.{has_room}
use Rattle.solver.proofs.has_room.Goals as goal

pub returns-then-flow-m : goal.returns-then-flow-m
unfolding has_room
returns-then-flow-m c = simp (lt-leb _ _ c.if-flow-m.true)

pub returns-then-side-n : goal.returns-then-side-n
unfolding has_room
returns-then-side-n c = simp (le-leb _ _ c.if-flow-m.false, lt-leb _ _ c.if-side-n.true)

pub returns : goal.returns
unfolding has_room
returns c =
    simp (le-leb _ _ c.if-flow-m.false, le-leb _ _ c.if-side-n.false)
    (ap (λ (x : ℕ). leb x c.args.work) c.work_need.ensures)
