-- `has_work` meets its contract: the need is the definition's.
use mathlib.Core.Path.{ap}
use Prim.Native.Nat.{ℕ}
use lib.Dec.{leb}
use Rattle.room.proofs.has_work.Goals as goal

pub returns : goal.returns
returns c = ap (λ (x : ℕ). leb x c.args.work) c.room_need.ensures
