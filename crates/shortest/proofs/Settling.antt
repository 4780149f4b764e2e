-- Filling chains until the sink can't be reached: it ends, with a largest flow whose smallest side is the side marked; so value and side are those of any other largest flow.
use Prim.Native.Nat.{ℕ, zero, suc, ◌+◌, ◌≤◌, ◌<◌}
use mathlib.Core.Path.{◌≡◌, refl, sym, subst, ◌∙◌}
use mathlib.Core.Bool.{Bool, true, false, true≢false}
use mathlib.Core.List.{List, [], ◌∷◌}
use native.Mathlib.Omega.{arith}
use lib.ListN.{length, drop}
use lib.Dec.{eqb}
use borrow.Author.Tests.{ltb-true, ltb-false, lt-ltb}
use Rattle.rows.specs.Sum.{only}
use Rattle.rows.specs.Row.{at_place, at_node, Node}
use Rattle.rows.proofs.Sums.{by_test, by_equal, sum_mono, only_mono}
use Rattle.network.specs.Network.{Network, Flow, Maximum, Reach, source, along, Answer, inflow, outflow, residual_over, Sound}
use Rattle.network.proofs.Cuts.{reached_answer}
use Rattle.network.proofs.Gaps.{Valid, EndLabels, sink_unreached}
use Rattle.reach.specs.Side.{marked, side_from}
use Rattle.reach.proofs.Side.{side_reached}
use Rattle.shortest.specs.Ways.{ahead, behind}
use Rattle.shortest.specs.Labels.{arrives, Distances}
use Rattle.shortest.specs.Chain.{Chain, arrived, step, FirstChain}
use Rattle.shortest.specs.Augment.{ways_in, residual_from, least_with, least_residual, filled, Fits, distances_in, reaches, chain_in, augmented, go_on, enough, settled, GoesOn, stops, fills}
use Rattle.shortest.proofs.Ends.{Ends}
use Rattle.shortest.proofs.Laying.{distances_right}
use Rattle.shortest.proofs.Chains.{arrives_first, distances_arrive, chosen_long, first_chain_same}
use Rattle.shortest.proofs.Filling.{least_above, filled_long, fits_later, fits_flow, fits_value, shortest_fits}

-- The least residual, as it is found from the first arc's.
least_is : (N : Network) (flow : List ℕ) (i k : ℕ) (ks : List ℕ) → least_residual N flow i (k ∷ ks) ≤ least_with N flow (residual_from N flow i k) i (k ∷ ks)
unfolding least_residual
least_is N flow i k ks = omega arith

-- What leaves a node is at most the capacities out of it.
outflow_at_most : (N : Network) (flow : ℕ → ℕ) → Flow N flow → (i : ℕ) → outflow N flow i ≤ outflow N N.capacity i
unfolding outflow
outflow_at_most N flow f i =
    sum_mono N.m (λ k. only (eqb (N.tail k) i) (flow k)) (λ k. only (eqb (N.tail k) i) (N.capacity k))
    (λ k l. only_mono (eqb (N.tail k) i) (flow k) (N.capacity k) (f.high k l))

-- ---- a sound network's residual arcs

module _ (N : Network) (sound : Sound N) where
  -- Their ends are nodes.
  pub ways_ends : (flow : List ℕ) → Ends N.n (ways_in N flow)
  ways_ends flow =
      record {
        tail_within = sound.tails;
        head_within = sound.heads;
      }

  -- The source is a node,
  pub source_within : Node N.n N.s
  source_within = sound.source

  -- and so is the sink.
  pub sink_within : Node N.n N.t
  sink_within = sound.sink

  -- The distances are right.
  pub distances_in_lem : (flow : List ℕ) → Distances (ways_in N flow) N.n N.t (distances_in N flow)
  distances_in_lem flow = distances_right (ways_in N flow) N.n N.t (ways_ends flow) sink_within

  -- Where the sink can be reached, the chain by the distances arrives:
  pub distances_reach : (flow : List ℕ) → reaches N flow ≡ true → arrives (ways_in N flow) (distances_in N flow) (at_node (distances_in N flow) N.s) N.s ≡ true
  distances_reach flow e =
      distances_arrive (ways_in N flow) N.n N.t (ways_ends flow) (distances_in N flow) (distances_in_lem flow) (at_node (distances_in N flow) N.s) N.s source_within refl
      (ltb-true (at_node (distances_in N flow) N.s) N.n e)

  -- it is document 02's.
  pub chain_first : (flow : List ℕ) → reaches N flow ≡ true → FirstChain (ways_in N flow) N.s N.t (chain_in N flow)
  chain_first flow e =
      arrives_first (ways_in N flow) N.n N.t (ways_ends flow) (distances_in N flow) (distances_in_lem flow).labels N.s source_within (distances_reach flow e)

  -- The source is not the sink: the chain has arcs.
  pub distance_positive : (flow : List ℕ) → 1 ≤ at_node (distances_in N flow) N.s
  distance_positive flow =
      by_equal (at_node (distances_in N flow) N.s) 0
      (λ e. absurd (sound.apart ((distances_in_lem flow).labels.only_sink N.s source_within e)))
      (λ ne. omega arith)

  -- ---- one chain filled

  module _ (flow : List ℕ) (long : N.m ≤ length flow) (e : reaches N flow ≡ true) where
    -- The chain has as many arcs as the source is far.
    pub chain_even : at_node (distances_in N flow) N.s ≡ length (chain_in N flow)
    chain_even = sym (chosen_long (ways_in N flow) (distances_in N flow) (at_node (distances_in N flow) N.s) N.s)

    -- Each arc of the chain has room for its least residual in its turn.
    pub chain_fits : Fits N (least_residual N flow N.s (chain_in N flow)) N.s (chain_in N flow) flow
    chain_fits = by (chain_in N flow) (chain_first flow e).chain chain_even
      where
        by : (ks : List ℕ) → Chain (ways_in N flow) N.t N.s ks → at_node (distances_in N flow) N.s ≡ length ks → Fits N (least_residual N flow N.s ks) N.s ks flow
        by [] chain even = absurd (omega (arith, distance_positive flow))
        by (k ∷ ks) chain even =
            shortest_fits N sound N.n flow (distances_in N flow) (distances_in_lem flow).labels (least_residual N flow N.s (k ∷ ks)) chain even flow long (λ a l p q. refl) (residual_from N flow N.s k) (least_is N flow N.s k ks)

    -- The least residual is at least 1.
    pub amount_positive : 1 ≤ least_residual N flow N.s (chain_in N flow)
    amount_positive = least_above N sound flow (chain_first flow e).chain (omega (arith, distance_positive flow, chain_even))

    -- The flow stays a flow.
    pub augmented_flow : Flow N (at_place flow) → Flow N (at_place (augmented N flow))
    augmented_flow f = fits_flow N (least_residual N flow N.s (chain_in N flow)) sound chain_fits long f

    -- And its value rises by the least residual.
    pub augmented_value :
        outflow N (at_place (augmented N flow)) N.s + inflow N (at_place flow) N.s
        ≡ outflow N (at_place flow) N.s + inflow N (at_place (augmented N flow)) N.s + least_residual N flow N.s (chain_in N flow)
    augmented_value = fits_value N (least_residual N flow N.s (chain_in N flow)) sound chain_fits long

    -- What leaves the source is at most what can.
    pub augmented_bound : Flow N (at_place flow) → outflow N (at_place (augmented N flow)) N.s ≤ outflow N N.capacity N.s
    augmented_bound f = outflow_at_most N (at_place (augmented N flow)) (augmented_flow f) N.s

  -- The row keeps its length.
  pub augmented_long : (flow : List ℕ) → length (augmented N flow) ≡ length flow
  augmented_long flow = filled_long N (least_residual N flow N.s (chain_in N flow)) N.s (chain_in N flow) flow

  -- ---- the repetition

  -- What holds of a flow row and is kept by every chain filled holds after the repetition.
  pub go_on_keeps : (P : List ℕ → Type 0) → ((flow : List ℕ) → reaches N flow ≡ true → P flow → P (augmented N flow)) → (left : ℕ) (flow : List ℕ) → P flow → P (go_on N left flow)
  unfolding go_on
  go_on_keeps P more zero flow p = p
  go_on_keeps P more (suc left) flow p =
      by_test (reaches N flow)
      (λ e. rw e (go_on_keeps P more left (augmented N flow) (more flow e p)))
      (λ e. rw e p)

  -- A flow row: a number for each place, and a flow.
  pub record FlowRow (flow : List ℕ) : Type 0 where
    pub long : N.m ≤ length flow
    pub valid : Flow N (at_place flow)

  -- A flow row stays one.
  pub augmented_row : (flow : List ℕ) → reaches N flow ≡ true → FlowRow flow → FlowRow (augmented N flow)
  augmented_row flow e r = record { long = omega (arith, augmented_long flow, r.long); valid = augmented_flow flow r.long e r.valid }

  -- The repetition keeps a flow row one,
  pub go_on_row : (left : ℕ) (flow : List ℕ) → FlowRow flow → FlowRow (go_on N left flow)
  go_on_row left flow r = go_on_keeps FlowRow augmented_row left flow r

  -- And its length.
  pub go_on_long : (left : ℕ) (flow : List ℕ) → length (go_on N left flow) ≡ length flow
  go_on_long left flow = go_on_keeps (λ f. length f ≡ length flow) (λ f e p. augmented_long f ∙ p) left flow refl

  -- A chain takes away at least 1 of what is left to the capacities out of the source.
  pub less_left : (left : ℕ) (flow : List ℕ) → FlowRow flow → reaches N flow ≡ true → enough N flow ≤ outflow N (at_place flow) N.s + suc left
      → enough N (augmented N flow) ≤ outflow N (at_place (augmented N flow)) N.s + left
  less_left left flow r e h = omega (arith, augmented_value flow r.long e, amount_positive flow r.long e)

  -- With none left the sink can't be reached.
  none_left : (flow : List ℕ) → FlowRow flow → enough N flow ≤ outflow N (at_place flow) N.s → reaches N flow ≡ false
  none_left flow r h =
      by_test (reaches N flow)
      (λ e. absurd (omega (arith, augmented_value flow r.long e, amount_positive flow r.long e, augmented_bound flow r.long e r.valid)))
      (λ e. e)

  -- Enough chains, and the sink can't be reached.
  go_on_ends : (left : ℕ) (flow : List ℕ) → FlowRow flow → enough N flow ≤ outflow N (at_place flow) N.s + left → reaches N (go_on N left flow) ≡ false
  unfolding go_on
  go_on_ends zero flow r h = none_left flow r (omega arith)
  go_on_ends (suc left) flow r h =
      by_test (reaches N flow)
      (λ e. rw e (go_on_ends left (augmented N flow) (augmented_row flow e r) (less_left left flow r e h)))
      (λ e. rw e e)

  -- The repetition ends: the sink can't be reached.
  pub settled_ends : (flow : List ℕ) → FlowRow flow → reaches N (settled N flow) ≡ false
  unfolding settled
  settled_ends flow r = go_on_ends (enough N flow) flow r (omega arith)

  -- What is left is a flow row,
  pub settled_row : (flow : List ℕ) → FlowRow flow → FlowRow (settled N flow)
  unfolding settled
  settled_row flow r = go_on_row (enough N flow) flow r

  -- as long as before.
  pub settled_long : (flow : List ℕ) → length (settled N flow) ≡ length flow
  unfolding settled
  settled_long flow = go_on_long (enough N flow) flow

  -- Later places of the row stay.
  pub settled_later : (flow : List ℕ) → FlowRow flow → drop N.m (settled N flow) ≡ drop N.m flow
  unfolding settled
  settled_later flow r =
      (go_on_keeps (λ f. FlowRow f × (drop N.m f ≡ drop N.m flow))
      (λ f e p. (
        augmented_row f e p.0,
        fits_later N (least_residual N f N.s (chain_in N f)) (chain_fits f p.0.long e) ∙ p.1,
      )) (enough N flow) flow (r, refl)
      ).1

  -- Where the sink can't be reached, nothing more is done.
  pub go_on_still : (left : ℕ) (flow : List ℕ) → reaches N flow ≡ false → go_on N left flow ≡ flow
  unfolding go_on
  go_on_still zero flow e = refl
  go_on_still (suc left) flow e = rw e

  -- So enough chains are enough: any larger number gives the same.
  go_on_same : (left more : ℕ) (flow : List ℕ) → FlowRow flow → enough N flow ≤ outflow N (at_place flow) N.s + left
      → enough N flow ≤ outflow N (at_place flow) N.s + more → go_on N left flow ≡ go_on N more flow
  unfolding go_on
  go_on_same zero more flow r h k = sym (go_on_still more flow (none_left flow r (omega arith)))
  go_on_same (suc left) zero flow r h k = go_on_still (suc left) flow (none_left flow r (omega arith))
  go_on_same (suc left) (suc more) flow r h k =
      by_test (reaches N flow)
      (λ e. rw e (go_on_same left more (augmented N flow) (augmented_row flow e r) (less_left left flow r e h) (less_left more flow r e k)))
      (λ e. rw e)

  -- One chain, and then on: the same end.
  pub settled_step : (flow : List ℕ) → FlowRow flow → reaches N flow ≡ true → settled N flow ≡ settled N (augmented N flow)
  unfolding settled go_on
  settled_step flow r e = by (enough N flow) (omega arith)
    where
      by : (left : ℕ) → enough N flow ≤ outflow N (at_place flow) N.s + left → go_on N left flow ≡ go_on N (enough N (augmented N flow)) (augmented N flow)
      by zero h = absurd (true≢false (sym e ∙ none_left flow r (omega arith)))
      by (suc left) h = rw e (go_on_same left (enough N (augmented N flow)) (augmented N flow) (augmented_row flow e r) (less_left left flow r e h) (omega arith))

  -- Where the sink cannot be reached nothing is done.
  pub settled_stop : (flow : List ℕ) → reaches N flow ≡ false → settled N flow ≡ flow
  unfolding settled
  settled_stop flow e = go_on_still (enough N flow) flow e

  -- ---- the end: a largest flow and its smallest side

  -- The distances are valid labels.
  distance_valid : (flow : List ℕ) → Valid N (at_place flow) (at_node (distances_in N flow))
  distance_valid flow k true l r = (distances_in_lem flow).labels.valid k (N.tail k) (N.head k) (ahead l (lt-ltb 0 (residual_over N (at_place flow) k true) r) refl refl)
  distance_valid flow k false l r = (distances_in_lem flow).labels.valid k (N.head k) (N.tail k) (behind l (lt-ltb 0 (residual_over N (at_place flow) k false) r) refl refl)

  module _ (flow : List ℕ) (stop : reaches N flow ≡ false) where
    -- n at the source, 0 at the sink.
    distance_ends : EndLabels N (at_node (distances_in N flow))
    distance_ends =
        record {
          source =
              let far = ltb-false (at_node (distances_in N flow) N.s) N.n stop in
              omega (arith, (distances_in_lem flow).labels.at_most N.s source_within);
          sink = (distances_in_lem flow).labels.at_sink;
        }

    -- The sink is not reachable.
    pub stopped_unreached : Reach N (at_place flow) N.t → ⊥
    stopped_unreached = sink_unreached N sound (at_place flow) (at_node (distances_in N flow)) (distance_valid flow) distance_ends

  -- A chain to the sink makes it reachable.
  pub chain_reach : (flow : List ℕ) {i : ℕ} {ks : List ℕ} → Chain (ways_in N flow) N.t i ks → Reach N (at_place flow) i → Reach N (at_place flow) N.t
  chain_reach flow arrived way = way
  chain_reach flow (step {j = j} k (ahead l f t h) rest) way =
      chain_reach flow rest
      (subst (Reach N (at_place flow)) h (along k true l (ltb-true 0 (residual_over N (at_place flow) k true) f) (subst (Reach N (at_place flow)) (sym t) way)))
  chain_reach flow (step {j = j} k (behind l f h t) rest) way =
      chain_reach flow rest
      (subst (Reach N (at_place flow)) t (along k false l (ltb-true 0 (residual_over N (at_place flow) k false) f) (subst (Reach N (at_place flow)) (sym h) way)))

  -- So at the stop there is no chain from source to sink.
  pub stopped_no_chain : (flow : List ℕ) → reaches N flow ≡ false → {ks : List ℕ} → Chain (ways_in N flow) N.t N.s ks → ⊥
  stopped_no_chain flow stop chain = stopped_unreached flow stop (chain_reach flow chain source)

  -- The repetition is document 02's,
  go_on_goes : (left : ℕ) (flow : List ℕ) → FlowRow flow → enough N flow ≤ outflow N (at_place flow) N.s + left → GoesOn N flow (go_on N left flow)
  unfolding go_on
  go_on_goes zero flow r h = let none = none_left flow r (omega arith) in stops (λ ks chain. stopped_no_chain flow none chain)
  go_on_goes (suc left) flow r h =
      by_test (reaches N flow)
      (λ e. rw e (fills (chain_in N flow) (chain_first flow e) (go_on_goes left (augmented N flow) (augmented_row flow e r) (less_left left flow r e h))))
      (λ e. rw e (stops (λ ks chain. stopped_no_chain flow e chain)))

  -- so the end of it is an end of document 02's chains.
  pub settled_goes_on : (flow : List ℕ) → FlowRow flow → GoesOn N flow (settled N flow)
  unfolding settled
  settled_goes_on flow r = go_on_goes (enough N flow) flow r (omega arith)

  -- Each step raises the value and leaves a flow: whichever chain is first, filled by its least residual, it takes more out of the source than before.
  pub step_raises : (flow : List ℕ) → FlowRow flow → (ks : List ℕ) → FirstChain (ways_in N flow) N.s N.t ks →
      let after = filled N (least_residual N flow N.s ks) N.s ks flow in
      (outflow N (at_place flow) N.s + inflow N (at_place after) N.s < outflow N (at_place after) N.s + inflow N (at_place flow) N.s) × FlowRow after
  step_raises flow r ks first =
      subst Raised (first_chain_same (ways_in N flow) N.s N.t (chain_in N flow) ks (chain_first flow there) first)
      (omega (arith, augmented_value flow r.long there, amount_positive flow r.long there), augmented_row flow there r)
    where
      there : reaches N flow ≡ true
      there = by_test (reaches N flow) (λ e. e) (λ e. absurd (stopped_no_chain flow e first.chain))

      Raised : List ℕ → Type 0
      Raised ls =
          let after = filled N (least_residual N flow N.s ls) N.s ls flow in
          (outflow N (at_place flow) N.s + inflow N (at_place after) N.s < outflow N (at_place after) N.s + inflow N (at_place flow) N.s) × FlowRow after

  -- From a largest flow the sink can't be reached: a chain would raise it.
  pub maximum_stops : (flow : List ℕ) → FlowRow flow → Maximum N (at_place flow) → reaches N flow ≡ false
  maximum_stops flow r largest =
      by_test (reaches N flow)
      (λ e.
      absurd
      (omega (
        arith,
        augmented_value flow r.long e,
        amount_positive flow r.long e,
        largest (at_place (augmented N flow)) (augmented_flow flow r.long e r.valid),
      )))
      (λ e. e)

  -- The source side of a flow row, as a mark on the nodes.
  abbrev pub mark_in : List ℕ → ℕ → Bool
  mark_in flow = marked (side_from N (at_place flow))

  -- At the stop, flow and side are the answer: largest flow, least cut of the same number, smallest side.
  pub stopped_answer : (flow : List ℕ) → reaches N flow ≡ false → Flow N (at_place flow) → Answer N (at_place flow) (mark_in flow)
  stopped_answer flow stop f =
      reached_answer N sound (at_place flow) f (mark_in flow) (side_reached N (at_place flow) sound)
      (by_test (mark_in flow N.t)
      (λ e. absurd (stopped_unreached flow stop ((side_reached N (at_place flow) sound).from N.t e)))
      (λ e. e))

  -- And the flow that the repetition leaves is the answer.
  pub settled_answer : (flow : List ℕ) → FlowRow flow → Answer N (at_place (settled N flow)) (mark_in (settled N flow))
  settled_answer flow r = stopped_answer (settled N flow) (settled_ends flow r) (settled_row flow r).valid

  -- Two answers have the same net flow out of the source.
  pub answer_value : (f g : ℕ → ℕ) (R Q : ℕ → Bool) → Answer N f R → Answer N g Q
      → outflow N f N.s + inflow N g N.s ≡ outflow N g N.s + inflow N f N.s
  answer_value f g R Q a b = omega (arith, a.maximum g b.valid, b.maximum f a.valid)

  -- And the same side.
  pub answer_side : (f g : ℕ → ℕ) (R Q : ℕ → Bool) → Answer N f R → Answer N g Q → (i : ℕ) → R i ≡ Q i
  answer_side f g R Q a b i =
      by_test (R i)
      (λ e. e ∙ sym (a.smallest Q b.least i e))
      (λ e. by_test (Q i) (λ q. b.smallest R a.least i q ∙ sym q) (λ q. e ∙ sym q))

-- And document 02's words leave nothing open: two ends are the same.
pub goes_on_same : (N : Network) {flow a b : List ℕ} → GoesOn N flow a → GoesOn N flow b → a ≡ b
goes_on_same N (stops p) (stops q) = refl
goes_on_same N (stops p) (fills ls g more) = absurd (p ls g.chain)
goes_on_same N (fills ks f rest) (stops q) = absurd (q ks f.chain)
goes_on_same N (fills {flow} {last} ks f rest) (fills {last = other} ls g more) =
    goes_on_same N rest
    (subst (λ ms. GoesOn N (filled N (least_residual N flow N.s ms) N.s ms flow) other) (sym (first_chain_same (ways_in N flow) N.s N.t ks ls f g)) more)
