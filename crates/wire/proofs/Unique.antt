-- What the promises leave open: nothing. Two results that meet one promise are equal, the lent byte rows too.
use Prim.Native.Nat.{ℕ}
use mathlib.Core.Path.{◌≡◌, sym, ◌∙◌}
use mathlib.Core.List.{List}
use Rattle.table.specs.Table.{Table}
use Rattle.wire.specs.Solve.{Served, serving}
use Rattle.wire.specs.Place.{Told, telling}

-- Solving: the number returned, the flow bytes, the marks and the result row.
pub serve_unique : (t : Table) (stamp : ℕ) (flow side result : List ℕ) (a b : Served)
    → a ≡ serving t stamp flow side result → b ≡ serving t stamp flow side result → a ≡ b
serve_unique t stamp flow side result a b p q = p ∙ sym q

-- Reading by place: the number returned and the result row.
pub tell_unique : (t : Table) (stamp answer : ℕ) (flow side : List ℕ) (place : ℕ) (result : List ℕ) (a b : Told)
    → a ≡ telling t stamp answer flow side place result → b ≡ telling t stamp answer flow side place result → a ≡ b
tell_unique t stamp answer flow side place result a b p q = p ∙ sym q
