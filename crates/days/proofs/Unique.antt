-- What the promise leaves open: nothing. Two results that meet it are equal, the lent rows too.
use mathlib.Core.Path.{◌≡◌, sym, ◌∙◌}
use Prim.Native.Nat.{ℕ}
use mathlib.Core.List.{List}
use Rattle.days.specs.Days.{Days}
use Rattle.days.specs.Month.{MonthLeft, month}

-- A month: the sums, the flow row, the side row, the work row and the answer row.
pub month_unique : (d : Days) (flow side work answers : List ℕ) (a b : MonthLeft) → a ≡ month d flow side work answers → b ≡ month d flow side work answers → a ≡ b
month_unique d flow side work answers a b p q = p ∙ sym q
