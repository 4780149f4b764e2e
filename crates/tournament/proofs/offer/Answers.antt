-- `offer` meets its contract: by whether the key is one, and at most the root.
use Rattle.tournament.proofs.Standing.{least_but, names}
use native.Mathlib.Omega.{arith}
use Rattle.tournament.proofs.offer.Goals as goal

pub returns-then-x-min : goal.returns-then-x-min
returns-then-x-min c n keys few own node is but = (
  c.args.x,
  least_but n keys c.args.tree.now own few c.args.i c.args.x node is (omega (arith, c.if-x-min.true, c.min.ensures)) but,
  names n keys own c.args.i c.args.x node is (omega (arith, c.if-x-min.true, c.min.ensures)),
)

pub returns : goal.returns
returns c n keys few own node is but =
    (c.root.result, c.root.ensures n keys few own (c.stand.ensures n keys few node is but), c.choose_by.ensures)
