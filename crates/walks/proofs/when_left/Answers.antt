-- `when_left` meets its contract: the number noted of node j counts where the walk did leave j there.
use mathlib.Core.Path.{sym}
use native.Mathlib.Omega.{arith}
use Rattle.walks.proofs.Scanning.{stands_here, stands_off}
use Rattle.walks.proofs.when_left.Goals as goal
use Rattle.walks.proofs.when_left.Goals.{else-q-walked-via-then-q-walked+else-tails-walked, else-q-walked-via-else-q-walked}

pub returns-then-tails-walked : goal.returns-then-tails-walked
returns-then-tails-walked c = (stands_here _ _ _ c.requires.places.1 _ _ c.at_node-q.ensures c.if-q-walked.true c.if-tails-walked.true, c.if-q-walked.true)

pub returns-else-q-walked : goal.returns-else-q-walked
returns-else-q-walked c =
    sym
    (stands_off _ _ _ c.requires.places.1 _ _ c.at_node-q.ensures
    (λ l e.
    elim c.else-q-walked.branch [
      | else-q-walked-via-then-q-walked+else-tails-walked w ↦ w.if-tails-walked.false e
      | else-q-walked-via-else-q-walked w ↦ absurd (omega (arith, w.if-q-walked.false))
    ]))
