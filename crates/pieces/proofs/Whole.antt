-- Document 02's promises of the list hold of the run's flow.
use Prim.Native.Nat.{ℕ, ◌+◌, ◌*◌, ◌≤◌, ◌<◌}
use mathlib.Core.Path.{◌≡◌, refl, ◌∙◌}
use mathlib.Core.List.{List}
use native.Mathlib.Nat.{mul-le-mul_right}
use native.Mathlib.Omega.{arith}
use lib.ListN.{length}
use Rattle.rows.specs.Row.{at_place}
use Rattle.table.specs.Table.{Table, arcs, network_of}
use Rattle.table.specs.Accepted.{Accepted}
use Rattle.run.specs.Start.{start}
use Rattle.run.specs.Scale.{phase_count, scale}
use Rattle.run.specs.Phase.{run, value}
use Rattle.run.proofs.Networks.{functions_of, accepted_sound, no_minimums}
use Rattle.run.proofs.Beginning.{start_flow_at_lem}
use Rattle.run.proofs.Whole.{begin_facts, course}
use Rattle.run.proofs.Answers.{run_best, run_fits}
use Rattle.pieces.specs.Chains.{remaining, onward, chains_of, numbers}
use Rattle.pieces.specs.Meaning.{Whole, next_of, LeftOf, whole_flow, piece_less, Silent}
use Rattle.pieces.proofs.Notions.{FlowLeft, Drawn}
use Rattle.pieces.proofs.Pieces.{without_flow, next_piece, next_ring, flow_left, chains_whole, pieces_few, numbers_short}
use Rattle.pieces.proofs.Silent.{first_silent, phases_silent}

module _ (t : Table) (ok : Accepted t) where
  -- The flow at the end.
  abbrev done : List ℕ
  done = (run t).state.flow

  -- No arc out of the sink carries flow at the end of the run.
  pub run_silent : Silent (network_of t) (at_place done)
  unfolding run start
  run_silent =
      phases_silent (network_of t) (accepted_sound t ok) (no_minimums t) (scale t) (functions_of (start t)) (begin_facts t ok)
      (λ k l e. start_flow_at_lem t k l ∙ first_silent (network_of t) (accepted_sound t ok) k l e)
      (course t ok (phase_count t) (omega arith)).phases

  -- The table's network is drawn by its tails and heads.
  drawn : Drawn (network_of t) t.tails t.heads
  drawn = record { count = ok.rows.capacities_long; tail_at = λ k. refl; head_at = λ k. refl }

  -- So the run's flow is one of which pieces can be taken away.
  run_left : FlowLeft (network_of t) done (value t done)
  run_left =
      flow_left (network_of t) (accepted_sound t ok) t.tails t.heads drawn done (value t done) (omega (arith, (run_fits t ok).flow))
      (run_best t ok).answer.valid (run_best t ok).net run_silent

  -- Chains add up to the value, chains and rings to each arc's flow, and each is as it should be.
  pub run_chains : Whole (network_of t) done (value t done) (chains_of t done)
  run_chains = chains_whole (network_of t) (accepted_sound t ok) t.tails t.heads drawn done (value t done) run_left

  -- Their number is at most m.
  pub run_few : length (chains_of t done) ≤ arcs t
  run_few = omega (arith, pieces_few t.nodes t.source t.sink t.tails t.heads (length t.tails) done, ok.rows.capacities_long)

  -- So a row of m (3 + n) numbers has room for the list.
  pub run_short : length (numbers (chains_of t done)) ≤ arcs t * (3 + t.nodes)
  run_short =
      omega (
        arith,
        numbers_short (network_of t) (accepted_sound t ok) (chains_of t done) run_chains.proper,
        mul-le-mul_right (3 + t.nodes) run_few,
      )

  -- What is left of the run's flow is such a flow too, whatever pieces were taken away,
  still_flow : (left : List ℕ) → LeftOf t done left → (v : ℕ) × FlowLeft (network_of t) left v
  still_flow left whole_flow = (value t done, run_left)
  still_flow _ (piece_less left before some) =
      let (v, flow) = still_flow left before in
      let is = next_piece (network_of t) (accepted_sound t ok) t.tails t.heads drawn left v flow some in
      let rest = without_flow (network_of t) left _ is flow.room (accepted_sound t ok) v flow in
      (rest.0, rest.1)

  -- so once nothing leaves the source no walk meets the sink: the next piece is a ring.
  pub run_rings : (left : List ℕ) → LeftOf t done left → remaining t.tails left < length t.tails
      → length t.tails ≤ onward t.tails left t.source → (next_of t left).kind ≡ 2
  run_rings left of_run some dry =
      let (v, flow) = still_flow left of_run in
      next_ring (network_of t) (accepted_sound t ok) t.tails t.heads drawn left v flow some dry
