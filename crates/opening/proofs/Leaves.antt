-- Laws of the code that tests for a flow.
use Rattle.std.proofs.Common.{◌≡◌, ℕ, suc, ◌-◌, ◌<◌, ◌≤◌, Bool, true, false, not, eqb, List, ◌++◌, length, get_or, take, replicate, sym, refl, ap, ◌∙◌, subst, arith, length-take-le}
use lib.ListN.{get_or-append}
use Rattle.rows.specs.Row.{Node, at_place, at_node}
use Rattle.rows.proofs.Rows.{node_at}
use Rattle.network.specs.Network.{inflow, outflow}
use Rattle.table.specs.Table.{Table, arcs, network_of}
use Rattle.table.specs.Accepted.{Accepted, ArcRows}
use Rattle.reach.specs.Side.{marked, side_of}
use Rattle.reach.proofs.Side.{length_of_side}
use Rattle.run.proofs.Networks.{accepted_sound}
use Rattle.start.specs.Sums.{sum_at}
use Rattle.sums.specs.Tallied.{Tallied}
use Rattle.sums.proofs.Tallying.{tallied_none}
use Rattle.opening.specs.Maximum.{all_below, is_within, keeps, is_kept, is_flow, is_maximum}
use Rattle.opening.proofs.Testing.{all_same}

-- ---- `is_conserved` and `is_flow`

-- The test by rows of sums is the test by the sums.
pub kept_by_sums : (s t : ℕ) {tails heads flow entering leaving : List ℕ} {n : ℕ} → Tallied heads flow (length heads) entering → Tallied tails flow (length tails) leaving
    → length entering ≡ n → length leaving ≡ n
    → is_kept s t (at_node entering) (at_node leaving) (length entering)
    ≡ is_kept s t (λ i. sum_at heads flow i (length heads)) (λ i. sum_at tails flow i (length tails)) n
unfolding is_kept
kept_by_sums s t {tails} {heads} {flow} {entering} {leaving} {n} come go long too =
    all_same (λ k. keeps s t (suc k) (at_node entering (suc k)) (at_node leaving (suc k))) (λ k. keeps s t (suc k) (sum_at heads flow (suc k) (length heads)) (sum_at tails flow (suc k) (length tails))) (length entering)
    (λ k l.
    ap (λ x. keeps s t (suc k) x (at_node leaving (suc k))) (come.exact (suc k) (omega arith, omega arith))
    ∙ ap (λ x. keeps s t (suc k) (sum_at heads flow (suc k) (length heads)) x) (go.exact (suc k) (omega arith, omega arith)))
    ∙ ap (all_below (λ k. keeps s t (suc k) (sum_at heads flow (suc k) (length heads)) (sum_at tails flow (suc k) (length tails)))) long

module _ (t : Table) (flow : List ℕ) {r : Bool} (is : r ≡ is_within t.capacities flow) where
  -- A flow above its capacity.
  pub flow_above : r ≡ false → false ≡ is_flow t flow
  unfolding is_flow
  flow_above e = rw (sym is ∙ e)

  -- Within the capacities, the test by sums decides.
  pub flow_decides : r ≡ true → (rows : ArcRows t.nodes t.tails t.heads t.capacities) → {kept : Bool} {count : ℕ} → count ≡ t.nodes
      → kept ≡ is_kept t.source t.sink (λ i. sum_at t.heads flow i (length t.heads)) (λ i. sum_at t.tails flow i (length t.tails)) count
      → kept ≡ is_flow t flow
  unfolding is_flow inflow outflow
  flow_decides e rows all same =
      let tails_long : length t.tails ≡ arcs t = omega (arith, rows.capacities_long) in
      let heads_long : length t.heads ≡ arcs t = omega (arith, rows.capacities_long, rows.ends.heads_long) in
      rw (sym is ∙ e)
      (same
      ∙ ap (is_kept t.source t.sink (λ i. sum_at t.heads flow i (length t.heads)) (λ i. sum_at t.tails flow i (length t.tails))) all
      ∙ ap (λ m. is_kept t.source t.sink (λ i. sum_at t.heads flow i m) (λ i. sum_at t.tails flow i (length t.tails)) t.nodes) heads_long
      ∙ ap (λ m. is_kept t.source t.sink (λ i. sum_at t.heads flow i (arcs t)) (λ i. sum_at t.tails flow i m) t.nodes) tails_long)

-- A row of n zeros, as the code has it.
abbrev pub zeros : ℕ → List ℕ
zeros n = take n (replicate 512 0)

-- It has n numbers.
pub zeros_long : (n : ℕ) → n ≤ 512 → length (zeros n) ≡ n
zeros_long n few = length-take-le n (replicate 512 0) few

-- What `is_conserved` asks, with rows of zeros for the sums.
module _ {n : ℕ} {tails heads capacities flow : List ℕ} (rows : ArcRows n tails heads capacities) (room : length capacities ≤ length flow) where
  -- All of it holds.
  pub conserved_asks :
      (((length tails ≤ length flow) × (length tails ≤ 4096)) × ((length heads ≤ length flow) × (length heads ≤ 4096)))
      × (((k : ℕ) → k < length tails → Node (length (zeros n)) (at_place tails k))
      × (((k : ℕ) → k < length heads → Node (length (zeros n)) (at_place heads k))
      × ((Tallied tails flow 0 (zeros n) × Tallied heads flow 0 (zeros n))
      × ((length (zeros n) ≡ length (zeros n)) × (length (zeros n) ≤ 512)))))
  conserved_asks = (
    ((omega (arith, rows.capacities_long), rows.ends.few_arcs), (omega (arith, rows.capacities_long, rows.ends.heads_long), omega (arith, rows.ends.few_arcs, rows.ends.heads_long))),
    (
      (λ k l. subst (λ x. Node x (at_place tails k)) (sym (zeros_long n rows.ends.few_nodes)) (rows.ends.tail_node k l)),
      (
        (λ k l. subst (λ x. Node x (at_place heads k)) (sym (zeros_long n rows.ends.few_nodes)) (rows.ends.head_node k (omega (arith, rows.ends.heads_long)))),
        ((tallied_none tails flow n 512, tallied_none heads flow n 512), (refl, omega (arith, zeros_long n rows.ends.few_nodes, rows.ends.few_nodes))),
      ),
    ),
  )

-- ---- `is_sink_reached` and `is_maximum`

module _ (t : Table) (ok : Accepted t) (flow : List ℕ) where
  -- The sink's mark.
  pub sink_mark : {row : List ℕ} (later : List ℕ) → row ≡ side_of t flow ++ later → eqb (get_or row (t.sink - 1) 0) 1 ≡ marked (side_of t flow) t.sink
  sink_mark {row} later e =
      ap (λ x. eqb x 1)
      (ap (λ x. get_or x (t.sink - 1) 0) e
      ∙ get_or-append (side_of t flow) later 0 (t.sink - 1) (omega (arith, ok.sink, length_of_side (network_of t) (at_place flow) (accepted_sound t ok)))
      ∙ sym (node_at (side_of t flow) t.sink ok.sink.0))

module _ (t : Table) (flow : List ℕ) {r : Bool} (is : r ≡ is_flow t flow) where
  -- A row that is no flow.
  pub maximum_not : r ≡ false → false ≡ is_maximum t flow
  unfolding is_maximum
  maximum_not e = rw (sym is ∙ e)

  -- Of a flow the sink's mark decides.
  pub maximum_decides : r ≡ true → {reached : Bool} → reached ≡ marked (side_of t flow) t.sink → not reached ≡ is_maximum t flow
  unfolding is_maximum
  maximum_decides e same = rw (sym is ∙ e) (ap not same)
