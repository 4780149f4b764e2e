-- `give` meets its contract: one law for each way out.
use mathlib.Core.Path.{sym, ◌∙◌}
use native.Mathlib.Omega.{arith}
use Rattle.rows.proofs.Rows.{node_at}
use Rattle.measuring.proofs.Visiting.{give_shut, give_again, give_new, given_place}
use Rattle.measuring.proofs.give.Goals as goal
use Rattle.measuring.proofs.give.Goals.{else-may-via-then-may+else-dist-p, else-may-via-else-may}

pub push-requires : goal.push-requires
push-requires c =
    let none = node_at _ _ c.requires.0.0 ∙ c.if-dist-p.true in
    omega (arith, given_place c.requires.1 c.args.i c.requires.0 none, c.requires.1.places)

pub returns-then-dist-p : goal.returns-then-dist-p
returns-then-dist-p c = rw (c.push.ensures.0, c.push.ensures.1) (give_new _ _ _ _ _ c.if-may.true (node_at _ _ c.requires.0.0 ∙ c.if-dist-p.true))

pub returns-else-may : goal.returns-else-may
returns-else-may c =
    elim c.else-may.branch [
      | else-may-via-then-may+else-dist-p w ↦ give_again _ _ _ _ _ w.if-may.true (λ e. w.if-dist-p.false (sym (node_at _ _ c.requires.0.0) ∙ e))
      | else-may-via-else-may w ↦ give_shut _ _ _ _ _ w.if-may.false
    ]
