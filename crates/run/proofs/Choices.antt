-- What the choice of a step answers.
use Rattle.std.specs.Prelude.{Option, Some, None}
use Prim.Native.Nat.{ℕ, zero, suc, ◌*◌, ◌≤◌, ◌<◌}
use mathlib.Core.Path.{◌≡◌, ap, subst}
use mathlib.Core.Bool.{true, false}
use mathlib.Core.List.{List}
use native.Mathlib.Omega.{arith}
use borrow.Author.Tests.{ltb-true, ltb-false}
use Rattle.rows.specs.Row.{at_node, Node}
use Rattle.rows.proofs.Sums.{by_equal}
use Rattle.network.proofs.Steps.{Chosen, Ended}
use Rattle.table.specs.Table.{Table, network_of}
use Rattle.run.specs.Start.{State}
use Rattle.run.specs.Choice.{large, is_less, lower, choose_to, choose}
use Rattle.run.proofs.Networks.{functions_of, by_cond}

-- Node b is large, no large node of 1..n has a lower label, and none before it has the same.
pub record First (delta : ℕ) (excess label : List ℕ) (n b : ℕ) : Type 0 where
  pub node : Node n b
  pub large : delta < 2 * at_node excess b
  pub lowest : (j : ℕ) → Node n j → delta < 2 * at_node excess j → at_node label b ≤ at_node label j
  pub first : (j : ℕ) → Node n j → delta < 2 * at_node excess j → j < b → at_node label b < at_node label j

-- No node of 1..n is large.
abbrev pub NoneLarge : ℕ → List ℕ → ℕ → Type 0
NoneLarge delta excess n = (j : ℕ) → Node n j → 2 * at_node excess j ≤ delta

-- What a choice among the nodes 1..n answers.
abbrev pub Answers : ℕ → List ℕ → List ℕ → ℕ → Option ℕ → Type 0
Answers delta excess label n None = NoneLarge delta excess n
Answers delta excess label n (Some b) = First delta excess label n b

module _ (delta : ℕ) (excess label : List ℕ) where
  -- One more node, which is not large.
  small_next : (i : ℕ) (c : Option ℕ) → 2 * at_node excess (suc i) ≤ delta → Answers delta excess label i c → Answers delta excess label (suc i) c
  small_next i None small none =
      λ j v. by_equal j (suc i) (λ e. omega (arith, ap (at_node excess) e)) (λ e. none j (omega arith))
  small_next i (Some b) small best =
      record {
        node = omega (arith, best.node);
        large = best.large;
        lowest = λ j v big. by_equal j (suc i) (λ e. absurd (omega (arith, ap (at_node excess) e))) (λ e. best.lowest j (omega arith) big);
        first = λ j v big before. best.first j (omega (arith, best.node)) big before;
      }

  -- One more node, which is large.
  large_next : (i : ℕ) (c : Option ℕ) → delta < 2 * at_node excess (suc i) → Answers delta excess label i c
      → Answers delta excess label (suc i) (lower label c (suc i))
  large_next i None big none =
      record {
        node = omega arith;
        large = big;
        lowest =
            λ j v big.
            by_equal j (suc i) (λ e. omega (arith, ap (at_node label) e)) (λ e. absurd (omega (arith, none j (omega arith))));
        first = λ j v big before. absurd (omega (arith, none j (omega arith)));
      }
  large_next i (Some b) big best =
      by_cond (Answers delta excess label (suc i)) (is_less label (suc i) b) (Some (suc i)) (Some b) (λ e. new (is_less_lem e)) (λ e. old (not_less e))
    where
      is_less_lem : is_less label (suc i) b ≡ true → at_node label (suc i) < at_node label b
      is_less_lem e = ltb-true (at_node label (suc i)) (at_node label b) e

      not_less : is_less label (suc i) b ≡ false → at_node label b ≤ at_node label (suc i)
      not_less e = ltb-false (at_node label (suc i)) (at_node label b) e

      new : at_node label (suc i) < at_node label b → First delta excess label (suc i) (suc i)
      new less =
          record {
            node = omega arith;
            large = big;
            lowest =
                λ j v also.
                by_equal j (suc i) (λ e. omega (arith, ap (at_node label) e)) (λ e. omega (arith, best.lowest j (omega arith) also));
            first = λ j v also before. omega (arith, best.lowest j (omega arith) also);
          }

      old : at_node label b ≤ at_node label (suc i) → First delta excess label (suc i) b
      old more =
          record {
            node = omega (arith, best.node);
            large = best.large;
            lowest = λ j v also. by_equal j (suc i) (λ e. omega (arith, ap (at_node label) e)) (λ e. best.lowest j (omega arith) also);
            first = λ j v also before. best.first j (omega (arith, best.node)) also before;
          }

  -- The choice among the nodes 1..n.
  pub chooses : (n : ℕ) → Answers delta excess label n (choose_to delta excess label n)
  unfolding choose_to
  chooses zero = λ j v. absurd (omega arith)
  chooses (suc i) =
      by_cond (Answers delta excess label (suc i)) (large delta excess (suc i))
      (lower label (choose_to delta excess label i) (suc i)) (choose_to delta excess label i)
      (λ e. large_next i (choose_to delta excess label i) (ltb-true delta (2 * at_node excess (suc i)) e) (chooses i))
      (λ e. small_next i (choose_to delta excess label i) (ltb-false delta (2 * at_node excess (suc i)) e) (chooses i))

-- What the choice of a step answers.
choose_answers : (t : Table) (delta : ℕ) (st : State) (c : Option ℕ) → choose t delta st ≡ c → Answers delta st.excess st.label t.nodes c
unfolding choose
choose_answers t delta st c e = subst (Answers delta st.excess st.label t.nodes) e (chooses delta st.excess st.label t.nodes)

-- The node that a step takes is the theory's: with 2 x excess above Delta, and of least label among such nodes.
pub choose_chosen : (t : Table) (delta : ℕ) (st : State) (i : ℕ) → choose t delta st ≡ Some i → Chosen (network_of t) delta (functions_of st) i
choose_chosen t delta st i e =
    let best : First delta st.excess st.label t.nodes i = choose_answers t delta st (Some i) e in
    record { node = best.node; large = best.large; lowest = best.lowest }

-- Where there is none the theory's phase has ended.
pub choose_ended : (t : Table) (delta : ℕ) (st : State) → choose t delta st ≡ None → Ended (network_of t) delta (functions_of st)
choose_ended t delta st e = choose_answers t delta st None e
