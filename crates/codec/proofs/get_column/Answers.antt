-- `get_column` meets its contract. The loop's invariant: the column holds the numbers before place k.
use Prim.Native.Nat.{ℕ, ◌+◌, ◌*◌}
use mathlib.Core.Path.{refl, ap, ◌∙◌}
use mathlib.Core.List.{List}
use native.Mathlib.Omega.{arith}
use lib.ListN.{set, length-set}
use Rattle.rows.proofs.Rows.{fill_none, fill_place}
use Rattle.little.specs.Little.{number32}
use Rattle.codec.proofs.get_column.Goals as goal

pub loop-k-init : goal.loop-k-init
loop-k-init c = (refl, fill_none (λ i. number32 c.args.bytes.now (c.args.step * i + c.args.from)) c.args.column.now)

pub loop-k-preserved : goal.loop-k-preserved
loop-k-preserved c =
    let given = c.args in (
      simp length-set (omega (arith, c.loop-k.invariant.0)),
      ap (λ (row : List ℕ). set row c.loop-k.k c.get.result) c.loop-k.invariant.1
          ∙ fill_place (λ i. number32 given.bytes.now (given.step * i + given.from)) c.loop-k.k c.get.result given.column.now (omega (arith, c.requires.count_in_bounds.1)) c.get.ensures,
    )
