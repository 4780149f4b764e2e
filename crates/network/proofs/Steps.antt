-- The run as a relation between states, over functions: what a step may do, the steps of a phase and whole phases, with their counts.
-- A step here takes any node of least label and any arc that fits. Document 01's run takes the first, so it is one of these, and
-- what holds of all of them holds of it.
use Prim.Native.Nat.{ℕ, ◌+◌, ◌*◌, ◌-◌, ◌/◌, ◌≤◌, ◌<◌, min}
use mathlib.Core.Path.{◌≡◌}
use mathlib.Core.Bool.{Bool, true, false, not, cond}
use lib.Dec.{eqb}
use Rattle.rows.specs.Sum.{only}
use Rattle.rows.specs.Row.{Node}
use Rattle.rows.proofs.Functions.{put}
use Rattle.network.specs.Network.{Network, is_inner, inflow, outflow, near_end, far_end, residual_over}
use Rattle.network.proofs.Notions.{ResidualFrom}

-- A state: the flow by place, the excess and the label by node.
pub record State : Type 0 where
  pub flow : ℕ → ℕ
  pub excess : ℕ → ℕ
  pub label : ℕ → ℕ

-- The flow at the start: every arc leaving the source is filled, all others are 0.
abbrev pub first_flow : Network → ℕ → ℕ
first_flow N k = only (eqb (N.tail k) N.s) (N.capacity k)

-- Labels at the start of nodes other than the source: the sink has 0, others 1.
abbrev pub first_label_off_source : Network → ℕ → ℕ
first_label_off_source N i = only (not (eqb i N.t)) 1

-- Labels at the start: the source has n, the sink 0, others 1.
abbrev pub first_label : Network → ℕ → ℕ
first_label N i = cond (eqb i N.s) N.n (first_label_off_source N i)

-- Excesses at the start: inflow less outflow, and 0 at source and sink.
abbrev pub first_excess : Network → ℕ → ℕ
first_excess N i = only (is_inner N i) (inflow N (first_flow N) i - outflow N (first_flow N) i)

-- The state at the start.
abbrev pub first : Network → State
first N = record { flow = first_flow N; excess = first_excess N; label = first_label N }

-- Step 1: i has 2 x excess above Delta, and the least label among such nodes.
pub record Chosen (N : Network) (Δ : ℕ) (S : State) (i : ℕ) : Type 0 where
  pub node : Node N.n i
  pub large : Δ < 2 * S.excess i
  pub lowest : (j : ℕ) → Node N.n j → Δ < 2 * S.excess j → S.label i ≤ S.label j

-- Step 2: the arc at k has residual above 0 this way, and its far end has a label exactly one less.
pub record Eligible (N : Network) (S : State) (k : ℕ) (b : Bool) : Type 0 where
  pub below : k < N.m
  pub left : 0 < residual_over N S.flow k b
  pub down : S.label (near_end N k b) ≡ S.label (far_end N k b) + 1

-- What is pushed: min(excess, residual, Delta - excess of the far end).
abbrev pub amount : Network → ℕ → State → ℕ → Bool → ℕ
amount N Δ S k b =
    min (S.excess (near_end N k b)) (min (residual_over N S.flow k b) (Δ - S.excess (far_end N k b)))

-- The flow of an arc after d more are taken forward, or backward.
abbrev pub moved : Bool → ℕ → ℕ → ℕ
moved true f d = f + d
moved false f d = f - d

-- The excesses with d taken from the near end.
abbrev pub taken : Network → ℕ → Bool → ℕ → State → ℕ → ℕ
taken N k b d S = put S.excess (near_end N k b) (S.excess (near_end N k b) - d)

-- The far end's excess with d brought to it; source and sink keep none of it.
abbrev pub brought : Network → ℕ → Bool → ℕ → State → ℕ
brought N k b d S = cond (is_inner N (far_end N k b)) (S.excess (far_end N k b) + d) (S.excess (far_end N k b))

-- A push of d over the arc at k, forward or backward.
abbrev pub push : Network → ℕ → Bool → ℕ → State → State
push N k b d S =
    record {
      flow = put S.flow k (moved b (S.flow k) d);
      excess = put (taken N k b d S) (far_end N k b) (brought N k b d S);
      label = S.label;
    }

-- Step 3: no arc out of i is eligible, and v is one more than the least label among far ends of residual arcs.
pub record NewLabel (N : Network) (S : State) (i v : ℕ) : Type 0 where
  pub stuck : (k : ℕ) (b : Bool) → k < N.m → near_end N k b ≡ i → 0 < residual_over N S.flow k b → S.label i ≡ S.label (far_end N k b) + 1 → ⊥
  pub least : (k : ℕ) (b : Bool) → k < N.m → near_end N k b ≡ i → 0 < residual_over N S.flow k b → v ≤ S.label (far_end N k b) + 1
  pub arc : ResidualFrom N S.flow i
  pub reached : v ≡ S.label (far_end N arc.place arc.way) + 1

-- A relabel: node i at the label v.
abbrev pub relabel : ℕ → ℕ → State → State
relabel i v S = record { flow = S.flow; excess = S.excess; label = put S.label i v }

-- Steps of one phase from S, with the counts of saturating pushes, nonsaturating pushes and relabels.
pub data Steps (N : Network) (Δ : ℕ) (S : State) : State → ℕ → ℕ → ℕ → Type 0 where
  no_steps_lem : Steps N Δ S S 0 0 0
  saturating : {U : State} {a c r : ℕ} → Steps N Δ S U a c r → (k : ℕ) (b : Bool) → Chosen N Δ U (near_end N k b) → Eligible N U k b
      → amount N Δ U k b ≡ residual_over N U.flow k b → Steps N Δ S (push N k b (amount N Δ U k b) U) (a + 1) c r
  nonsaturating : {U : State} {a c r : ℕ} → Steps N Δ S U a c r → (k : ℕ) (b : Bool) → Chosen N Δ U (near_end N k b) → Eligible N U k b
      → amount N Δ U k b < residual_over N U.flow k b → Steps N Δ S (push N k b (amount N Δ U k b) U) a (c + 1) r
  relabels : {U : State} {a c r : ℕ} → Steps N Δ S U a c r → (i v : ℕ) → Chosen N Δ U i → NewLabel N U i v
      → Steps N Δ S (relabel i v U) a c (r + 1)

-- No node is left with 2 x excess above Delta: the phase ends.
abbrev pub Ended : Network → ℕ → State → Type 0
Ended N Δ S = (i : ℕ) → Node N.n i → 2 * S.excess i ≤ Δ

-- Whole phases from S at D, then D/2, ..: the Delta that is next, the state, the phases done and the three counts.
pub data Phases (N : Network) (D : ℕ) (S : State) : ℕ → State → ℕ → ℕ → ℕ → ℕ → Type 0 where
  no_phases : Phases N D S D S 0 0 0 0
  phase : {Δ : ℕ} {U W : State} {K a c r a' c' r' : ℕ} → Phases N D S Δ U K a c r → 0 < Δ → Steps N Δ U W a' c' r' → Ended N Δ W
      → Phases N D S (Δ / 2) W (K + 1) (a + a') (c + c') (r + r')
