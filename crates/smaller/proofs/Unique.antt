-- What the promise leaves open: nothing.
use Rattle.std.proofs.Common.{◌≡◌, ℕ, List, sym, ◌∙◌}
use Rattle.minimums.specs.BoundedTable.{BoundedTable}
use Rattle.keeping.specs.SmallRows.{SmallRows}
use Rattle.smaller.specs.Reducing.{LeftReduced, reducing}

-- Two results that meet the promise are equal: the answer, the smaller table's numbers and all eight rows.
pub reduce_unique : (b : BoundedTable) (stamp : ℕ) (flow side work : List ℕ) (small : SmallRows) (x y : LeftReduced)
    → x ≡ reducing b stamp flow side work small → y ≡ reducing b stamp flow side work small → x ≡ y
reduce_unique b stamp flow side work small x y p q = p ∙ sym q
