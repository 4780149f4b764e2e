-- How much a preflow can hold.
use Prim.Native.Nat.{ℕ, ◌≤◌}
use mathlib.Core.Path.{ap}
use mathlib.Core.Bool.{true}
use native.Mathlib.Omega.{arith}
use Rattle.rows.specs.Sum.{sum}
use Rattle.rows.proofs.Functions.{nodes}
use Rattle.rows.specs.Row.{Node}
use Rattle.rows.proofs.Sums.{by_equal, sum_mono, sum_by_key, nodes_mono}
use Rattle.network.specs.Network.{Network, inflow, Sound}
use Rattle.network.proofs.Notions.{Preflow}

-- All excesses of a preflow together are at most all capacities.
pub excess_in_all : (N : Network) → Sound N → (flow excess : ℕ → ℕ) → Preflow N flow excess → nodes N.n excess ≤ sum N.m N.capacity
unfolding inflow
excess_in_all N sound flow excess pre =
    omega (
      arith,
      nodes_mono N.n excess (inflow N flow) at_node,
      sum_by_key N.n N.m (λ i. true) N.head flow sound.heads,
      sum_mono N.m flow N.capacity pre.high,
    )
  where
    at_node : (i : ℕ) → Node N.n i → excess i ≤ inflow N flow i
    at_node i v =
        by_equal i N.s
        (λ e. omega (arith, ap excess e, pre.at_source))
        (λ p.
        by_equal i N.t
        (λ e. omega (arith, ap excess e, pre.at_sink))
        (λ q. omega (arith, pre.balance i (record { node = v; not_source = p; not_sink = q }))))
