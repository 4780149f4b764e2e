-- Laws of the code that goes on from a flow.
use Rattle.std.proofs.Common.{◌≡◌, ℕ, ◌≤◌, List, ◌++◌, length, take, drop, replicate, sym, ap, ◌∙◌, subst, append-nil, arith, drop_of_length-le, length-take-le, take_all}
use lib.ListN.{length-replicate}
use Rattle.rows.specs.Row.{at_place, cleared}
use Rattle.rows.proofs.Rows.{zero_at}
use Rattle.network.specs.Network.{Flow, inflow, outflow}
use Rattle.table.specs.Table.{Table, arcs, network_of}
use Rattle.table.specs.Accepted.{Accepted}
use Rattle.reach.specs.Side.{side_of}
use Rattle.run.specs.Phase.{value, no_steps}
use Rattle.start.specs.Sums.{sum_at}
use Rattle.arcs.specs.Work.{work_need}
use Rattle.solver.specs.declared.Answer.{Answer}
use Rattle.solver.specs.Solving.{Left, left, answer_with}
use Rattle.solver.proofs.Solved.{same_left}
use Rattle.shortest.specs.Augment.{bound_network, settled}
use Rattle.shortest.specs.Rows.{Ready}
use Rattle.shortest.proofs.Instances.{no_minimums, rows_wide}
use Rattle.stamps.specs.Stamp.{raised}
use Rattle.opening.specs.Opening.{opened_answer, went_on}
use Rattle.opening.proofs.Fresh.{last_best, last_long}

-- The answer with the raised stamp.
pub answer_is : (stamp value x : ℕ) → x ≡ raised stamp
    → record { refusal = 0; place = 0; stamp = x; value = value; scale = 0; phases = 0; saturating = 0; nonsaturating = 0; relabels = 0 } ≡ opened_answer stamp value
unfolding answer_with
answer_is stamp value x e =
    ap (λ (y : ℕ). answer_with y value 0 0 no_steps) e

module _ (t : Table) (ok : Accepted t) (minimums flow : List ℕ) (zeros : minimums ≡ replicate (arcs t) 0) where
  -- A row of zeros has no minimum above 0: the network is the table's.
  same_network : bound_network t.nodes t.source t.sink t.tails t.heads t.capacities minimums ≡ network_of t
  same_network =
      no_minimums t.nodes t.source t.sink t.tails t.heads t.capacities minimums
      (λ k. ap (λ row. at_place row k) zeros ∙ zero_at (arcs t) k)

  -- What `go_on` asks.
  pub ready_rows : length flow ≡ arcs t → Flow (network_of t) (at_place flow) → Ready (record { table = t; minimums = minimums }) flow
  ready_rows long valid =
      record {
        rows = record { arcs = rows_wide ok.rows; minimums_long = ap length zeros ∙ length-replicate (arcs t) 0; flow_long = omega arith };
        source = ok.source;
        sink = ok.sink;
        apart = ok.apart;
        valid = subst (λ N. Flow N (at_place flow)) (sym same_network) valid;
      }

  -- What it leaves is of the table's network.
  pub gone_row : {after : List ℕ} → after ≡ settled (bound_network t.nodes t.source t.sink t.tails t.heads t.capacities minimums) flow
      → after ≡ settled (network_of t) flow
  gone_row e = e ∙ ap (λ N. settled N flow) same_network

-- What the value asks: no more comes into the source than leaves it.
pub last_sums : (t : Table) → Accepted t → (flow : List ℕ) → length flow ≡ arcs t → Flow (network_of t) (at_place flow) → {after : List ℕ} → after ≡ settled (network_of t) flow
    → (length after ≡ arcs t) × (sum_at t.heads after t.source (length t.heads) ≤ sum_at t.tails after t.source (length t.tails))
unfolding inflow outflow
last_sums t ok flow long valid {after} same =
    let heads_long : length t.heads ≡ arcs t = omega (arith, ok.rows.ends.heads_long, ok.rows.capacities_long) in
    let tails_long : length t.tails ≡ arcs t = omega (arith, ok.rows.capacities_long) in
    let enough : arcs t ≤ length flow = omega arith in (
      ap length same ∙ last_long t ok flow enough valid ∙ long,
      rw (same, heads_long, tails_long) (omega (arith, (last_best t ok flow enough valid).net)),
    )

-- The flow at the end, its value, its side and a cleared work row, where the flow row has just m places.
pub went_rows : (t : Table) (stamp : ℕ) (flow side work : List ℕ) (worth need : ℕ) (r : Answer) (flow_left side_left work_left : List ℕ)
    → length flow ≡ arcs t → flow_left ≡ settled (network_of t) flow → worth ≡ value t flow_left
    → side_left ≡ side_of t flow_left ++ drop t.nodes side
    → work_left ≡ cleared need work → need ≡ work_need t.nodes (arcs t)
    → r ≡ opened_answer stamp worth
    → left r flow_left side_left work_left ≡ went_on t stamp flow side work
unfolding went_on
went_rows t stamp flow side work worth need r flow_left side_left work_left long e v f h w g =
    let past : length flow ≤ arcs t = omega arith in
    rw (take_all (arcs t) flow past, drop_of_length-le flow past, append-nil)
    (same_left
    (g ∙ ap (opened_answer stamp) (v ∙ ap (value t) e))
    e
    (f ∙ ap (λ (l : List ℕ). side_of t l ++ drop t.nodes side) e)
    (h ∙ ap (λ (x : ℕ). cleared x work) w))

-- The flow row's later places are as they were, where its first m were lent.
pub went_longer : (t : Table) (stamp : ℕ) (flow side work : List ℕ) (r : Answer) (flow_left side_left work_left : List ℕ)
    → arcs t ≤ length flow → left r flow_left side_left work_left ≡ went_on t stamp (take (arcs t) flow) side work
    → left r (flow_left ++ drop (arcs t) flow) side_left work_left ≡ went_on t stamp flow side work
unfolding went_on
went_longer t stamp flow side work r flow_left side_left work_left room e =
    let past : length (take (arcs t) flow) ≤ arcs t = omega (arith, length-take-le (arcs t) flow room) in
    ap (λ (l : Left). left l.answer (l.flow ++ drop (arcs t) flow) l.side l.work) e
    ∙ rw (drop_of_length-le (take (arcs t) flow) past, append-nil, take_all (arcs t) (take (arcs t) flow) past)
