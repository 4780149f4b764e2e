-- `rebuilds_behind` meets its contract: the wrapped difference is the one round 2^32.
use Rattle.std.proofs.Common.{arith}
use Rattle.stamps.specs.Stamp.{behind}
use Rattle.stamps.proofs.rebuilds_behind.Goals as goal

pub returns : goal.returns
unfolding behind
returns c = omega arith
