-- What the promise leaves open: nothing.
use Prim.Native.Nat.{ℕ}
use mathlib.Core.Path.{◌≡◌, sym, ◌∙◌}
use mathlib.Core.List.{List}
use Rattle.minimums.specs.BoundedTable.{BoundedTable}
use Rattle.openings.specs.Finding.{LeftOpenings, finding}

-- Two results that meet the promise are equal: the answer, the three filled lengths and all six rows.
pub find_openings_unique : (b : BoundedTable) (stamp : ℕ) (flow side work sources sinks places : List ℕ) (x y : LeftOpenings)
    → x ≡ finding b stamp flow side work sources sinks places → y ≡ finding b stamp flow side work sources sinks places → x ≡ y
find_openings_unique b stamp flow side work sources sinks places x y p q = p ∙ sym q
