-- `scale` meets its contract: no phase has the scale 0, and else it is a power of two.
use Rattle.start.proofs.Scaling.{scale_none, scale_some}
use Rattle.std.proofs.lemmas.Nat.{one_shl}
use mathlib.Core.Path.{sym, ◌∙◌}
use Prim.Native.Nat.{◌-◌}
use native.Mathlib.Omega.{arith}
use Rattle.start.proofs.scale.Goals as goal

pub returns-then-phases-eq0 : goal.returns-then-phases-eq0
returns-then-phases-eq0 c = sym (scale_none _ c.if-phases-eq0.true)

pub returns-else-phases-eq0 : goal.returns-else-phases-eq0
returns-else-phases-eq0 c = one_shl (c.args.phases - 1) 64 (omega arith) ∙ sym (scale_some c.args.phases (omega arith))
