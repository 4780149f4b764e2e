-- The net flow into the sink: what a push brings there, and that no step of a phase lowers it.
use Prim.Native.Nat.{ℕ, ◌+◌, ◌≤◌}
use mathlib.Core.Path.{◌≡◌}
use mathlib.Core.Bool.{Bool}
use native.Mathlib.Omega.{arith}
use borrow.Author.Tests.{ne_eqb}
use lib.Dec.{eqb}
use Rattle.rows.specs.Sum.{only}
use Rattle.rows.proofs.Sums.{only_false}
use Rattle.network.specs.Network.{Network, inflow, outflow, near_end, far_end, Sound, NoMinimums}
use Rattle.network.proofs.Steps.{State, Chosen, Eligible, push, amount, Steps, no_steps_lem, saturating, nonsaturating, relabels}
use Rattle.network.proofs.Facts.{Facts}
use Rattle.network.proofs.Push.{Allowed, amount_allowed, push_balance}
use Rattle.network.proofs.Bounds.{steps_hold}

-- The net flow into the sink is d more after than before (both sides without a difference).
abbrev pub SinkGains : Network → (before after : ℕ → ℕ) → (d : ℕ) → Type 0
SinkGains N before after d = inflow N before N.t + outflow N after N.t + d ≡ inflow N after N.t + outflow N before N.t

module _ (N : Network) (sound : Sound N) (none : NoMinimums N) (Δ : ℕ) where
  -- The push of a step brings the sink what it moves, if the sink is the far end, and else nothing.
  pub push_sink : (U : State) → Facts N Δ U → (k : ℕ) (b : Bool) → Chosen N Δ U (near_end N k b) → Eligible N U k b
      → SinkGains N U.flow (push N k b (amount N Δ U k b) U).flow (only (eqb (far_end N k b) N.t) (amount N Δ U k b))
  push_sink U facts k b chosen arc =
      let ok : Allowed N Δ U k b (amount N Δ U k b) = amount_allowed N sound Δ U facts k b chosen arc in
      omega (
        arith,
        push_balance N U.flow k b (amount N Δ U k b) ok.below ok.fits N.t,
        only_false (eqb (near_end N k b) N.t) (amount N Δ U k b) (ne_eqb (near_end N k b) N.t ok.inner.not_sink),
      )

  -- No steps of a phase lower the net flow into the sink.
  pub steps_sink : (S : State) → Facts N Δ S → {U : State} {a c r : ℕ} → Steps N Δ S U a c r
      → inflow N S.flow N.t + outflow N U.flow N.t ≤ inflow N U.flow N.t + outflow N S.flow N.t
  steps_sink S facts no_steps_lem = omega arith
  steps_sink S facts (saturating {U = U} steps k b chosen arc full) =
      omega (arith, steps_sink S facts steps, push_sink U (steps_hold N sound none Δ S facts steps).0 k b chosen arc)
  steps_sink S facts (nonsaturating {U = U} steps k b chosen arc less) =
      omega (arith, steps_sink S facts steps, push_sink U (steps_hold N sound none Δ S facts steps).0 k b chosen arc)
  steps_sink S facts (relabels steps i v chosen new) = steps_sink S facts steps
