-- What the promises leave open: nothing. Two results that meet one are equal.
use mathlib.Core.Path.{◌≡◌, sym, ◌∙◌}
use mathlib.Core.List.{List}
use Prim.Native.Nat.{ℕ}
use Rattle.amounts.specs.declared.Kind.{Kind}
use Rattle.amounts.specs.Lines.{kind_of}

pub line_kind_unique : (line : List ℕ) (x y : Kind) → x ≡ kind_of line → y ≡ kind_of line → x ≡ y
line_kind_unique line x y p q = p ∙ sym q
