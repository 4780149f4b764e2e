-- The run's flow with its side is the answer: demand 2. Its rows have the table's lengths.
use Prim.Native.Nat.{ℕ, ◌≤◌}
use native.Mathlib.Omega.{arith}
use mathlib.Core.List.{List}
use Rattle.rows.specs.Row.{at_place}
use Rattle.network.specs.Network.{Answer}
use Rattle.network.proofs.Cuts.{no_minimums_enter, leaving_most}
use Rattle.network.proofs.Facts.{answer_at_end}
use Rattle.table.specs.Table.{Table, capacity, network_of}
use Rattle.table.specs.Accepted.{Accepted}
use Rattle.reach.specs.Side.{marked, side_of}
use Rattle.reach.proofs.Side.{side_reached}
use Rattle.run.specs.Scale.{phase_count}
use Rattle.run.specs.Phase.{after, run, value}
use Rattle.run.specs.Rows.{Fits}
use Rattle.run.specs.Demands.{Best}
use Rattle.run.proofs.Networks.{functions_of, accepted_sound, no_minimums}
use Rattle.run.proofs.Whole.{capacity_in_all, run_course, end_facts}

-- A flow and its side that are the answer of a table meet demand 2.
pub answer_best : (t : Table) → Accepted t → (flow : List ℕ) → Answer (network_of t) (at_place flow) (marked (side_of t flow))
    → Best t flow (side_of t flow) (value t flow)
unfolding value
answer_best t ok flow answer =
    let none_enter = no_minimums_enter (network_of t) (marked (side_of t flow)) (no_minimums t) in
    record {
      answer = answer;
      reached = side_reached (network_of t) (at_place flow) (accepted_sound t ok);
      net = omega (arith, answer.value);
      cut = omega (arith, answer.value);
    }

-- Demand 2 of the run's flow, its side and its value.
pub run_best : (t : Table) → Accepted t → Best t (run t).state.flow (side_of t (run t).state.flow) (value t (run t).state.flow)
unfolding run
run_best t ok =
    answer_best t ok (run t).state.flow
    (answer_at_end (network_of t) (accepted_sound t ok) (functions_of (after t (phase_count t)).state) (end_facts t ok)
    (marked (side_of t (run t).state.flow)) (side_reached (network_of t) (at_place (run t).state.flow) (accepted_sound t ok)))

-- The run's rows have the table's lengths.
pub run_fits : (t : Table) → Accepted t → Fits t (run t).state
unfolding run
run_fits t ok = (run_course t ok).fits

-- The run's value is at most 4,096,000,000.
pub run_value : (t : Table) → Accepted t → value t (run t).state.flow ≤ 4096000000
run_value t ok =
    omega (
      arith,
      (run_best t ok).cut,
      leaving_most (network_of t) (marked (side_of t (run t).state.flow)) (capacity t),
      capacity_in_all t ok,
    )
