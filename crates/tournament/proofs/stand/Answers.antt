-- `stand` meets its contract: the key is put at its leaf, or stands there already.
use Rattle.tournament.proofs.Standing.{stand_put}
use Rattle.tournament.proofs.stand.Goals as goal

pub returns-then-tree-i : goal.returns-then-tree-i
returns-then-tree-i c n keys few node is (z, t) =
    stand_put n keys c.set_key.new.tree c.args.i c.args.x z is (c.set_key.ensures n _ node.1 few t)
