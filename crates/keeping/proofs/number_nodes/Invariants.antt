-- `number_nodes` meets its contract. The loop's invariant: the first k nodes have their numbers, and the kept nodes up to k are counted.
use Prim.Native.Nat.{suc}
use mathlib.Core.Path.{◌≡◌}
use mathlib.Core.List.{◌++◌}
use lib.ListN.{length, drop}
use Rattle.rows.specs.Row.{by_place}
use Rattle.listing.specs.Passing.{passing}
use Rattle.shrinking.specs.Smaller.{node_by, up_to}
use Rattle.keeping.proofs.number_nodes.Given as goal

abbrev pub invariant-loop-k : goal.invariant-loop-k
invariant-loop-k l =
    (l.count ≡ length (passing (node_by l.ahead l.behind l.s l.t) (suc l.k)))
    × (l.numbers ≡ by_place (λ q. up_to (node_by l.ahead l.behind l.s l.t) (suc q)) l.k ++ drop l.k l.initial.numbers)
