-- What proofs say of functions of places and nodes: one value changed, and the sum over nodes.
use Prim.Native.Nat.{ℕ, suc}
use mathlib.Core.Bool.{cond}
use lib.Dec.{eqb}
use Rattle.rows.specs.Sum.{sum}

-- `f`, but `v` at `i`.
abbrev pub put : (ℕ → ℕ) → ℕ → ℕ → ℕ → ℕ
put f i v j = cond (eqb j i) v (f j)

-- `f 1 + .. + f n`: a sum over nodes, which are numbered from 1.
abbrev pub nodes : ℕ → (ℕ → ℕ) → ℕ
nodes n f = sum n (λ k. f (suc k))
