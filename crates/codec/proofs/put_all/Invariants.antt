-- `put_all` meets its contract. The loop's invariant: the first k numbers stand in front.
use mathlib.Core.Path.{◌≡◌}
use mathlib.Core.List.{map}
use lib.ListN.{length}
use Rattle.little.proofs.Bytes.{written}
use Rattle.codec.proofs.put_all.Given as goal

abbrev pub invariant-loop-k : goal.invariant-loop-k
invariant-loop-k g l = (length l.bytes ≡ length l.initial.bytes) × (l.bytes ≡ written g.T.Little.WIDTH (map g.T.Little.value l.numbers) l.initial.bytes l.k)
