-- Going on from a flow of a table: value and side are those of solving it afresh.
use Rattle.std.proofs.Common.{◌≡◌, ℕ, ◌≤◌, List, length, arith}
use Rattle.rows.specs.Row.{at_place}
use Rattle.network.specs.Network.{Flow, Answer, Sound}
use Rattle.table.specs.Table.{Table, arcs, network_of}
use Rattle.table.specs.Accepted.{Accepted}
use Rattle.reach.specs.Side.{marked, side_of}
use Rattle.reach.proofs.Side.{same_reached}
use Rattle.run.specs.Phase.{run, value}
use Rattle.run.specs.Demands.{Best}
use Rattle.run.proofs.Networks.{accepted_sound}
use Rattle.run.proofs.Answers.{answer_best, run_best}
use Rattle.shortest.specs.Augment.{settled, GoesOn}
use Rattle.shortest.proofs.Settling.{settled_answer, settled_goes_on, settled_long, answer_value, answer_side}

module _ (t : Table) (ok : Accepted t) (flow : List ℕ) (long : arcs t ≤ length flow) (valid : Flow (network_of t) (at_place flow)) where
  -- The network is sound.
  sound : Sound (network_of t)
  sound = accepted_sound t ok

  -- The flow at the end.
  abbrev pub last : List ℕ
  last = settled (network_of t) flow

  -- It is the answer with its side,
  last_answer : Answer (network_of t) (at_place last) (marked (side_of t last))
  last_answer = settled_answer (network_of t) sound flow (record { long = long; valid = valid })

  -- the best,
  pub last_best : Best t last (side_of t last) (value t last)
  last_best = answer_best t ok last last_answer

  -- the end of document 02's chains,
  pub last_chains : GoesOn (network_of t) flow last
  last_chains = settled_goes_on (network_of t) sound flow (record { long = long; valid = valid })

  -- and as long as before.
  pub last_long : length last ≡ length flow
  last_long = settled_long (network_of t) sound flow

  -- The value is that of solving afresh,
  pub fresh_value : value t last ≡ value t (run t).state.flow
  unfolding value
  fresh_value =
      let solved = run_best t ok in
      omega (
        arith,
        last_best.net,
        solved.net,
        answer_value (network_of t) sound (at_place last) (at_place (run t).state.flow) (marked (side_of t last)) (marked (side_of t (run t).state.flow)) last_answer
            solved.answer,
      )

  -- and so is the side.
  pub fresh_side : side_of t last ≡ side_of t (run t).state.flow
  fresh_side =
      same_reached (network_of t) (at_place last) (at_place (run t).state.flow) sound
      (answer_side (network_of t) sound (at_place last) (at_place (run t).state.flow) (marked (side_of t last)) (marked (side_of t (run t).state.flow)) last_answer
      (run_best t ok).answer)
