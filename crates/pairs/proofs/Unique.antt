-- What the promise leaves open: nothing.
use Prim.Native.Nat.{ℕ}
use mathlib.Core.Path.{◌≡◌, sym, ◌∙◌}
use mathlib.Core.Bool.{Bool}
use Rattle.pairs.specs.Places.{is_node}

pub is_node_unique : (n i : ℕ) (x y : Bool) → x ≡ is_node n i → y ≡ is_node n i → x ≡ y
is_node_unique n i x y p q = p ∙ sym q
