-- From the marks and rows that the code makes to those of the definitions.
use Rattle.std.proofs.Common.{◌≡◌, ℕ, zero, suc, ◌≤◌, Bool, true, ◌&&◌, leb, List, ◌++◌, take, drop, replicate, refl, ap, ◌∙◌, take_at, le-leb}
use mathlib.Core.Path.{fun_ext}
use Rattle.rows.specs.Row.{at_place}
use Rattle.table.specs.Table.{Table, arcs, network_of}
use Rattle.table.specs.Accepted.{Accepted}
use Rattle.reach.specs.Side.{side_from, side_of, turned, sink_side_of}
use Rattle.reach.proofs.Side.{length_of_side}
use Rattle.reach.proofs.Turning.{turned_sound}
use Rattle.run.specs.Phase.{run}
use Rattle.run.proofs.Networks.{accepted_sound}
use Rattle.run.proofs.Answers.{run_fits}
use Rattle.solver.specs.declared.Answer.{Answer}
use Rattle.solver.specs.Solving.{Left, left, solution, solved}
use Rattle.shrinking.specs.Smaller.{from_source, to_sink}
use Rattle.smaller.specs.Reducing.{has_small_room}

-- A row of zeros says that nothing flows.
zero_flow : (row : List ℕ) (n : ℕ) → row ≡ replicate n 0 → at_place row ≡ (λ k. 0)
zero_flow row n e = ap at_place e ∙ fun_ext (each n)
  where
    each : (n k : ℕ) → at_place (replicate n 0) k ≡ 0
    each zero k = refl
    each (suc n) zero = refl
    each (suc n) (suc k) = each n k

module _ (t : Table) (ok : Accepted t) (none : List ℕ) (n : ℕ) (empty : none ≡ replicate n 0) where
  -- What the source reaches where nothing flows,
  pub live_ahead : (old row : List ℕ) → row ≡ side_of t none ++ drop t.nodes old → take t.nodes row ≡ from_source t
  live_ahead old row e =
      ap (take t.nodes) e ∙ take_at (side_of t none) (drop t.nodes old) t.nodes (length_of_side (network_of t) (at_place none) (accepted_sound t ok)) ∙ ap (side_from (network_of t)) (zero_flow none n empty)

  -- and what reaches the sink there.
  pub live_behind : (old row : List ℕ) → row ≡ sink_side_of t none ++ drop t.nodes old → take t.nodes row ≡ to_sink t
  live_behind old row e =
      ap (take t.nodes) e ∙ take_at (sink_side_of t none) (drop t.nodes old) t.nodes (length_of_side (network_of (turned t)) (at_place none) (turned_sound t (accepted_sound t ok))) ∙ ap (side_from (network_of (turned t))) (zero_flow none n empty)

-- What a solved table leaves: its answer, and its flow in the first places of the flow row.
pub solved_found : (t : Table) → Accepted t → (stamp m : ℕ) (flow side work : List ℕ) (r : Answer) (flow_left side_left work_left : List ℕ) → arcs t ≡ m
    → left r flow_left side_left work_left ≡ solved t stamp flow side work → (r ≡ solution t stamp) × (take m flow_left ≡ (run t).state.flow)
unfolding solved
solved_found t ok stamp m flow side work r flow_left side_left work_left all e = (
  ap (λ (l : Left). l.answer) e,
  ap (λ (l : Left). take m l.flow) e ∙ take_at (run t).state.flow (drop (arcs t) flow) m ((run_fits t ok).flow ∙ all),
)

-- Where all rows but the last are long enough, the last decides whether there is room.
pub last_decides : (solving : Bool) (n m tails heads capacities nodes_from arcs_from : ℕ) → solving ≡ true → m ≤ tails → m ≤ heads → m ≤ capacities → n ≤ nodes_from
    → leb m arcs_from ≡ (solving && has_small_room n m tails heads capacities nodes_from arcs_from)
unfolding has_small_room
last_decides solving n m tails heads capacities nodes_from arcs_from may a b c d =
    rw (may, le-leb m tails a, le-leb m heads b, le-leb m capacities c, le-leb n nodes_from d)
