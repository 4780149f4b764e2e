-- The start of the rows' run is the start of the theory's.
use Prim.Native.Nat.{ℕ, ◌-◌, ◌≤◌, ◌<◌}
use mathlib.Core.Path.{◌≡◌, refl, ap₂, sym, ◌∙◌}
use mathlib.Core.Bool.{Bool, true, false, not, cond}
use native.Mathlib.Omega.{arith}
use lib.Dec.{eqb}
use Rattle.rows.specs.Sum.{only}
use Rattle.rows.specs.Row.{at_node, at_place, Node}
use Rattle.rows.proofs.Rows.{length_places, at_places, at_nodes}
use Rattle.network.specs.Network.{is_inner}
use Rattle.network.proofs.Steps.{first, first_flow, first_excess}
use Rattle.network.proofs.Start.{first_facts}
use Rattle.network.proofs.Agree.{Agree, inflow_agree, outflow_agree, facts_agree}
use Rattle.table.specs.Table.{Table, arcs, network_of}
use Rattle.table.specs.Accepted.{Accepted}
use Rattle.run.specs.Start.{start_flow_at, start_flow, excess_at, start_label_at, start}
use Rattle.run.specs.Rows.{Fits}
use Rattle.run.proofs.Networks.{functions_of, FactsOf, accepted_sound, no_minimums}

-- The start's flow at each place is the theory's.
pub start_flow_at_lem : (t : Table) (k : ℕ) → k < arcs t → at_place (start_flow t) k ≡ first_flow (network_of t) k
unfolding start_flow
start_flow_at_lem t k l = at_places (start_flow_at t) (arcs t) k l

-- Its flow, excess and label at each place and node are the theory's.
start_agrees : (t : Table) → Agree (network_of t) (first (network_of t)) (functions_of (start t))
unfolding start excess_at
start_agrees t =
    record {
      flow = λ k l. sym (start_flow_at_lem t k l);
      excess = λ i v. sym (at_nodes (excess_at t (start_flow t)) t.nodes i v ∙ excess_at_lem i);
      label = λ i v. sym (at_nodes (start_label_at t) t.nodes i v ∙ label_at (eqb i t.source) (eqb i t.sink));
    }
  where
    excess_at_lem : (i : ℕ) → excess_at t (start_flow t) i ≡ first_excess (network_of t) i
    excess_at_lem i =
        ap₂ (λ x y. only (is_inner (network_of t) i) (x - y))
        (inflow_agree (network_of t) _ _ (start_flow_at_lem t) i) (outflow_agree (network_of t) _ _ (start_flow_at_lem t) i)

    label_at : (x y : Bool) → cond x t.nodes (cond y 0 1) ≡ cond x t.nodes (only (not y) 1)
    label_at true y = refl
    label_at false true = refl
    label_at false false = refl

-- The start's rows have the table's lengths.
pub start_fits : (t : Table) → Fits t (start t)
unfolding start start_flow
start_fits t =
    record {
      flow = length_places (start_flow_at t) (arcs t);
      excess = length_places _ t.nodes;
      label = length_places _ t.nodes;
    }

-- The facts hold at the start, at any D that is at least each excess.
pub start_facts : (t : Table) → Accepted t → (D : ℕ) → ((i : ℕ) → Node t.nodes i → at_node (start t).excess i ≤ D)
    → FactsOf t D (start t)
start_facts t ok D small =
    facts_agree (network_of t) (accepted_sound t ok) D (first (network_of t)) (functions_of (start t)) (start_agrees t)
    (first_facts (network_of t) (accepted_sound t ok) (no_minimums t) D (λ i v. omega (arith, small i v, (start_agrees t).excess i v)))
