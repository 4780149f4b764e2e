-- `is_marked` meets its contract: node i stands at place i - 1.
use Prim.Native.Nat.{ℕ}
use mathlib.Core.Path.{ap, sym}
use lib.Dec.{eqb}
use Rattle.rows.proofs.Rows.{node_at}
use Rattle.reach.proofs.is_marked.Goals as goal

pub returns : goal.returns
returns c =
    ap (λ (x : ℕ). eqb x 1) (sym (node_at c.args.side.now c.args.i c.requires.0))
