-- A phase of the rows is a phase of the theory: it ends with no node to choose.
use Rattle.std.specs.Prelude.{Option, Some, None}
use Prim.Native.Nat.{ℕ, zero, suc, ◌+◌, ◌≤◌, ◌<◌}
use mathlib.Core.Path.{◌≡◌, refl}
use mathlib.Core.Logic.{◌⊎◌, inl, inr, ⊎_elim}
use native.Mathlib.Omega.{arith}
use Rattle.network.proofs.Bounds.{steps_in_phase}
use Rattle.table.specs.Table.{Table, network_of}
use Rattle.table.specs.Accepted.{Accepted}
use Rattle.run.specs.Choice.{choose}
use Rattle.run.specs.Phase.{Run, step, phase_for, enough, phase}
use Rattle.run.specs.Rows.{Fits}
use Rattle.run.proofs.Networks.{functions_of, FactsOf, accepted_sound, no_minimums}
use Rattle.run.proofs.Trails.{Trail, no_trail, step_trail}

-- What at most `left` steps more lead to: that many steps, or no node to choose.
pub record Led (t : Table) (delta : ℕ) (from to : Run) (least : ℕ) : Type 0 where
  pub size : ℕ
  pub trail : Trail t delta from to size
  pub done : (least ≤ size) ⊎ (choose t delta to.state ≡ None)

module _ (t : Table) (ok : Accepted t) (delta : ℕ) (from : Run) (facts : FactsOf t delta from.state) where
  -- At most `left` steps more.
  pub phase_for_led : (left : ℕ) (r : Run) (size : ℕ) → Trail t delta from r size → Led t delta from (phase_for t delta left r) (size + left)
  unfolding phase_for
  phase_for_led zero r size trail = record { size = size; trail = trail; done = inl (omega arith) }
  phase_for_led (suc left) r size trail =
      go (choose t delta r.state) refl
      (λ i e. phase_for_led left (step t delta r i) (size + 1) (step_trail t ok delta from facts r size trail i e))
    where
      go : (c : Option ℕ) → choose t delta r.state ≡ c
          → ((i : ℕ) → choose t delta r.state ≡ Some i → Led t delta from (phase_for t delta left (step t delta r i)) (size + 1 + left))
          → Led t delta from (elim c as (λ _. Run) [ None ↦ r | Some i ↦ phase_for t delta left (step t delta r i) ]) (size + suc left)
      go None e on = record { size = size; trail = trail; done = inr e }
      go (Some i) e on =
          let led : Led t delta from (phase_for t delta left (step t delta r i)) (size + 1 + left) = on i e in
          record { size = led.size; trail = led.trail; done = ⊎_elim (λ l. inl (omega arith)) inr led.done }

  module _ (positive : 0 < delta) where
    -- No trail has more than `enough` steps.
    pub trail_short : (r : Run) (size : ℕ) → Trail t delta from r size → size ≤ enough t
    trail_short r size trail =
        omega (
          arith,
          trail.size_is,
          steps_in_phase (network_of t) (accepted_sound t ok) (no_minimums t) delta (functions_of from.state) facts trail.steps positive,
        )

    -- After that many there is no node to choose.
    spent : (r : Run) (size : ℕ) → Trail t delta from r size → enough t ≤ size → choose t delta r.state ≡ None
    spent r size trail all = go (choose t delta r.state) refl
      where
        go : (c : Option ℕ) → choose t delta r.state ≡ c → choose t delta r.state ≡ None
        go None e = e
        go (Some i) e =
            absurd (omega (arith, trail_short (step t delta r i) (size + 1) (step_trail t ok delta from facts r size trail i e)))

    module _ (fits : Fits t from.state) where
      -- A phase is a trail,
      pub phase_led : Led t delta from (phase t delta from) (enough t)
      unfolding phase
      phase_led =
          let led : Led t delta from (phase_for t delta (enough t) from) (0 + enough t) = phase_for_led (enough t) from 0 (no_trail t delta from fits) in
          record { size = led.size; trail = led.trail; done = ⊎_elim (λ l. inl (omega arith)) inr led.done }

      -- with no node to choose at its end.
      pub phase_ended : choose t delta (phase t delta from).state ≡ None
      phase_ended = ⊎_elim (spent (phase t delta from) phase_led.size phase_led.trail) (λ e. e) phase_led.done
