-- States that agree at all places and nodes have the same facts.
use Prim.Native.Nat.{ℕ, ◌<◌}
use mathlib.Core.Path.{◌≡◌, ap, sym, ◌∙◌}
use native.Mathlib.Omega.{arith}
use lib.Dec.{eqb}
use Rattle.rows.specs.Sum.{only}
use Rattle.rows.specs.Row.{Node}
use Rattle.rows.proofs.Sums.{sum_ext}
use Rattle.network.specs.Network.{Network, Flow, inflow, outflow, near_end, far_end, Sound}
use Rattle.network.proofs.Notions.{near_end_node, far_end_node, residual_over_ext}
use Rattle.network.proofs.Steps.{State}
use Rattle.network.proofs.Facts.{Facts}

-- Two states have the same flow at each place, the same excess and the same label at each node.
pub record Agree (N : Network) (S U : State) : Type 0 where
  pub flow : (k : ℕ) → k < N.m → S.flow k ≡ U.flow k
  pub excess : (i : ℕ) → Node N.n i → S.excess i ≡ U.excess i
  pub label : (i : ℕ) → Node N.n i → S.label i ≡ U.label i

-- Flows that agree have the same inflow,
pub inflow_agree : (N : Network) (flow other : ℕ → ℕ) → ((k : ℕ) → k < N.m → flow k ≡ other k) → (i : ℕ) → inflow N flow i ≡ inflow N other i
unfolding inflow
inflow_agree N flow other same i = sum_ext N.m _ _ (λ k l. ap (only (eqb (N.head k) i)) (same k l))

-- and the same outflow.
pub outflow_agree : (N : Network) (flow other : ℕ → ℕ) → ((k : ℕ) → k < N.m → flow k ≡ other k) → (i : ℕ) → outflow N flow i ≡ outflow N other i
unfolding outflow
outflow_agree N flow other same i = sum_ext N.m _ _ (λ k l. ap (only (eqb (N.tail k) i)) (same k l))

-- A row that agrees with a flow on every arc is one.
pub flow_agree : (N : Network) (flow other : ℕ → ℕ) → ((k : ℕ) → k < N.m → flow k ≡ other k) → Flow N flow → Flow N other
flow_agree N flow other same f =
    record {
      low = λ k l. omega (arith, f.low k l, same k l);
      high = λ k l. omega (arith, f.high k l, same k l);
      kept = λ i inner. sym (inflow_agree N flow other same i) ∙ f.kept i inner ∙ outflow_agree N flow other same i;
    }

-- The facts hold of both.
pub facts_agree : (N : Network) → Sound N → (Δ : ℕ) (S U : State) → Agree N S U → Facts N Δ S → Facts N Δ U
facts_agree N sound Δ S U same facts =
    record {
      pre =
          record {
            low = λ k l. omega (arith, same.flow k l, facts.pre.low k l);
            high = λ k l. omega (arith, same.flow k l, facts.pre.high k l);
            balance =
                λ i v.
                omega (
                  arith,
                  facts.pre.balance i v,
                  inflow_agree N S.flow U.flow same.flow i,
                  outflow_agree N S.flow U.flow same.flow i,
                  same.excess i v.node,
                );
            at_source = sym (same.excess N.s sound.source) ∙ facts.pre.at_source;
            at_sink = sym (same.excess N.t sound.sink) ∙ facts.pre.at_sink;
          };
      valid =
          λ k b l r.
          omega (
            arith,
            same.label (near_end N k b) (near_end_node N sound k b l),
            same.label (far_end N k b) (far_end_node N sound k b l),
            facts.valid k b l (omega (arith, residual_over_ext N S.flow U.flow k b (same.flow k l))),
          );
      ends =
          record {
            source = sym (same.label N.s sound.source) ∙ facts.ends.source;
            sink = sym (same.label N.t sound.sink) ∙ facts.ends.sink;
          };
      highest = λ i v. omega (arith, facts.highest i v, same.label i v);
      small = λ i v. omega (arith, facts.small i v, same.excess i v);
    }
