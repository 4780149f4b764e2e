-- `note` meets its contract: one law for each way out.
use mathlib.Core.Path.{sym, ◌∙◌}
use borrow.Author.Rules.{rules}
use Rattle.rows.proofs.Rows.{node_at}
use Rattle.reach.proofs.Marking.{mark_new}
use Rattle.reach.proofs.Visiting.{note_shut, note_again, note_new}
use Rattle.reach.proofs.note.Goals as goal
use Rattle.reach.proofs.note.Goals.{else-may-via-then-may+else-not-marked, else-may-via-else-may}

pub push-requires : goal.push-requires
push-requires c =
    let fewer = mark_new c.args.side.now c.args.j c.requires.0 (λ e. c.if-not-marked.true (sym (node_at _ _ c.requires.0.0) ∙ e)) in
    search rules

pub returns-then-not-marked : goal.returns-then-not-marked
returns-then-not-marked c =
    rw (c.push.ensures.0, c.push.ensures.1) (note_new _ _ _ c.if-may.true (λ e. c.if-not-marked.true (sym (node_at _ _ c.requires.0.0) ∙ e)))

pub returns-else-may : goal.returns-else-may
returns-else-may c =
    elim c.else-may.branch [
      | else-may-via-then-may+else-not-marked w ↦ note_again _ _ _ w.if-may.true (node_at _ _ c.requires.0.0 ∙ w.if-not-marked.false)
      | else-may-via-else-may w ↦ note_shut _ _ _ w.if-may.false
    ]
