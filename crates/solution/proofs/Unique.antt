-- What the promises leave open: nothing. Two results that meet one are equal, the lent row too.
use Prim.Native.Nat.{ℕ}
use mathlib.Core.Path.{◌≡◌, sym, ◌∙◌}
use mathlib.Core.List.{List}
use Rattle.minimums.specs.BoundedTable.{BoundedTable}
use Rattle.solution.specs.Writing.{writing}
use Rattle.solution.specs.Writing.{Left as LeftWritten}
use Rattle.solution.specs.Reading.{reading}
use Rattle.solution.specs.Reading.{Left as LeftRead}

pub write_unique : (b : BoundedTable) (value : ℕ) (flow text : List ℕ) (x y : LeftWritten) → x ≡ writing b value flow text → y ≡ writing b value flow text → x ≡ y
write_unique b value flow text x y p q = p ∙ sym q

pub read_unique : (b : BoundedTable) (text flow : List ℕ) (x y : LeftRead) → x ≡ reading b text flow → y ≡ reading b text flow → x ≡ y
read_unique b text flow x y p q = p ∙ sym q
