-- `enter` meets its contract: the key is put there, or there is none, or it is that of the same node.
use Rattle.tournament.proofs.Standing.{apart, but_put}
use mathlib.Core.Path.{sym}
use Rattle.tournament.proofs.enter.Goals as goal

pub returns-then-y-lt-NO_KEY : goal.returns-then-y-lt-NO_KEY
returns-then-y-lt-NO_KEY c n keys i few own at_i at_j is js up (z, t) =
    let two = apart keys c.args.j i c.args.y c.args.x js is c.if-x-y.true in
    but_put n keys c.set_key.new.tree i c.args.j c.args.y z (λ e. two (sym e)) js (c.set_key.ensures n _ at_j.1 few t)
