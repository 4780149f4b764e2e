-- `get_column` meets its contract. The loop's invariant: the column holds the numbers before place k.
use Prim.Native.Nat.{◌+◌, ◌*◌}
use mathlib.Core.Path.{◌≡◌}
use mathlib.Core.List.{◌++◌}
use lib.ListN.{length, drop}
use Rattle.rows.specs.Row.{by_place}
use Rattle.little.specs.Little.{number32}
use Rattle.codec.proofs.get_column.Given as goal

abbrev pub invariant-loop-k : goal.invariant-loop-k
invariant-loop-k l = (length l.column ≡ length l.initial.column) × (l.column ≡ by_place (λ i. number32 l.bytes (l.step * i + l.from)) l.k ++ drop l.k l.initial.column)
