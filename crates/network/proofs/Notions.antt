-- What only proofs speak of: preflows and residual arcs out of a node; with them what follows at once from a sound network.
use Prim.Native.Nat.{ℕ, ◌+◌, ◌≤◌, ◌<◌}
use mathlib.Core.Path.{◌≡◌, refl, ap, ap₂, sym}
use mathlib.Core.Bool.{Bool, true, false, not, ◌&&◌}
use native.Mathlib.Omega.{arith}
use borrow.Author.Tests.{eq-eqb, ne_eqb}
use lib.Dec.{eqb}
use Rattle.rows.specs.Row.{Node}
use Rattle.network.specs.Network.{Network, Inner, inflow, outflow, near_end, far_end, residual_over, is_inner, Sound}

-- A flow within minimum and capacity, whose inflow at an inner node is its outflow and the node's excess; source and sink count as 0.
pub record Preflow (N : Network) (flow excess : ℕ → ℕ) : Type 0 where
  pub low : (k : ℕ) → k < N.m → N.low k ≤ flow k
  pub high : (k : ℕ) → k < N.m → flow k ≤ N.capacity k
  pub balance : (i : ℕ) → Inner N i → inflow N flow i ≡ outflow N flow i + excess i
  pub at_source : excess N.s ≡ 0
  pub at_sink : excess N.t ≡ 0

-- A residual arc out of node i: a place and a way, with residual above 0.
pub record ResidualFrom (N : Network) (flow : ℕ → ℕ) (i : ℕ) : Type 0 where
  pub place : ℕ
  pub way : Bool
  pub below : place < N.m
  pub from : near_end N place way ≡ i
  pub left : 0 < residual_over N flow place way

-- The end that an arc is taken from is a node.
pub near_end_node : (N : Network) → Sound N → (k : ℕ) (b : Bool) → k < N.m → Node N.n (near_end N k b)
near_end_node N sound k true l = sound.tails k l
near_end_node N sound k false l = sound.heads k l

-- So is the end that it is taken to.
pub far_end_node : (N : Network) → Sound N → (k : ℕ) (b : Bool) → k < N.m → Node N.n (far_end N k b)
far_end_node N sound k true l = sound.heads k l
far_end_node N sound k false l = sound.tails k l

-- An arc's ends differ.
pub ends_differ : (N : Network) → Sound N → (k : ℕ) (b : Bool) → k < N.m → near_end N k b ≡ far_end N k b → ⊥
ends_differ N sound k true l e = sound.loopless k l e
ends_differ N sound k false l e = sound.loopless k l (sym e)

-- Inner nodes pass the test for them.
pub inner_test : (N : Network) (i : ℕ) → Inner N i → is_inner N i ≡ true
inner_test N i v =
    ap₂ (λ x y. not x && not y) (ne_eqb i N.s v.not_source) (ne_eqb i N.t v.not_sink)

-- The source fails it.
pub source_test : (N : Network) (i : ℕ) → i ≡ N.s → is_inner N i ≡ false
source_test N i e = ap (λ x. not x && not (eqb i N.t)) (eq-eqb i N.s e)

-- The sink fails it.
pub sink_test : (N : Network) (i : ℕ) → i ≡ N.t → is_inner N i ≡ false
sink_test N i e = last (not (eqb i N.s)) (eqb i N.t) (eq-eqb i N.t e)
  where
    last : (x y : Bool) → y ≡ true → x && not y ≡ false
    last true y e = ap not e
    last false y e = refl

-- A residual depends on the flow at its place alone.
pub residual_over_ext : (N : Network) (flow other : ℕ → ℕ) (k : ℕ) (b : Bool) → flow k ≡ other k → residual_over N flow k b ≡ residual_over N other k b
residual_over_ext N flow other k true e = omega (arith, e)
residual_over_ext N flow other k false e = omega (arith, e)
