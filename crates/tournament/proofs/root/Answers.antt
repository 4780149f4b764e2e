-- `root` meets its contract: the root is the least key.
use Rattle.tournament.proofs.Roots.{root_is_least}
use Rattle.tournament.proofs.root.Goals as goal

pub returns : goal.returns
returns c n keys few own t = root_is_least n keys c.args.tree.now few t own
