-- The side depends on the ends of arcs and their residuals alone: so it may be marked on rows less the minimums.
use Prim.Native.Nat.{ℕ, zero, suc, ◌-◌, ◌≤◌, ◌<◌}
use mathlib.Core.Path.{◌≡◌, refl, ap, ap₂, ◌∙◌}
use mathlib.Core.Bool.{Bool, true, false}
use mathlib.Core.List.{List}
use native.Mathlib.Omega.{arith}
use lib.Dec.{ltb}
use lib.ListN.{set, replicate}
use Rattle.network.specs.Network.{Network, near_end, far_end, residual_over}
use Rattle.reach.specs.Side.{spread, pass_to, passes, side_from}

-- Two networks with a flow each that have as many nodes and arcs, the same source, the same ends and the same residuals.
pub record Alike (N M : Network) (f g : ℕ → ℕ) : Type 0 where
  pub nodes : N.n ≡ M.n
  pub arcs : N.m ≡ M.m
  pub source : N.s ≡ M.s
  pub near : (k : ℕ) (b : Bool) → k < N.m → near_end N k b ≡ near_end M k b
  pub far : (k : ℕ) (b : Bool) → k < N.m → far_end N k b ≡ far_end M k b
  pub left : (k : ℕ) (b : Bool) → k < N.m → residual_over N f k b ≡ residual_over M g k b

-- A step with the same parts.
spread_same : (a b i j k l : ℕ) (row other : List ℕ) → a ≡ b → i ≡ k → j ≡ l → row ≡ other
    → spread (ltb 0 a) i j row ≡ spread (ltb 0 b) k l other
spread_same a b i j k l row other p q r s = cc

module _ (N M : Network) (f g : ℕ → ℕ) (alike : Alike N M f g) where
  -- The same marks after the places below k,
  pass_same : (k : ℕ) → k ≤ N.m → (row : List ℕ) → pass_to N f k row ≡ pass_to M g k row
  unfolding pass_to
  pass_same zero h row = refl
  pass_same (suc k) h row =
      spread_same _ _ _ _ _ _ _ _ (alike.left k false (omega arith)) (alike.near k false (omega arith)) (alike.far k false (omega arith))
      (spread_same _ _ _ _ _ _ _ _ (alike.left k true (omega arith)) (alike.near k true (omega arith)) (alike.far k true (omega arith))
      (pass_same k (omega arith) row))

  -- after so many passes,
  passes_same : (left : ℕ) (row : List ℕ) → passes N f left row ≡ passes M g left row
  unfolding passes
  passes_same zero row = refl
  passes_same (suc left) row =
      ap (passes N f left) (pass_same N.m (omega arith) row ∙ ap (λ m. pass_to M g m row) alike.arcs) ∙ passes_same left _

  -- and at the end.
  pub side_same : side_from N f ≡ side_from M g
  unfolding side_from
  side_same =
      passes_same N.n _
      ∙ ap₂ (λ n s. passes M g n (set (replicate n 0) (s - 1) 1)) alike.nodes alike.source
