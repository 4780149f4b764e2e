-- A largest flow of a bounded table, in CR 11's signed words.
use Prim.Native.Nat.{ℕ, ◌≤◌}
use mathlib.Core.Path.{◌≡◌, sym, subst, ◌∙◌}
use mathlib.Core.Bool.{Bool, false}
use mathlib.Core.List.{List}
use native.Mathlib.Omega.{arith}
use lib.IntN.{ℤ, nat_abs}
use lib.Signed.{◌≤ℤ◌}
use Rattle.rows.specs.Row.{at_place}
use Rattle.network.specs.Network.{Network, Flow, Cut, Least, Reached, Answer, inflow, outflow, leaving, entering, Sound}
use Rattle.network.proofs.Cuts.{reached_answer}
use Rattle.reach.specs.Side.{marked, side_from}
use Rattle.reach.proofs.Side.{side_reached}
use Rattle.joined.proofs.Joining.{inflow_most, outflow_most}
use Rattle.minimums.specs.BoundedTable.{BoundedTable, AcceptedBounded}
use Rattle.feasible.specs.Flows.{bounded_network}
use Rattle.feasible.proofs.Accepting.{bounded_sound, all_capacities}
use Rattle.bounded.specs.Bounded.{value_of, cut_capacity, GreatestBounded}
use Rattle.bounded.proofs.Signed.{less, same, same_only, size}

module _ (b : BoundedTable) (accepted : AcceptedBounded b) (flow side : List ℕ) (value : ℤ) where
  abbrev N : Network
  N = bounded_network b

  -- A flow whose side, as it is marked, leaves the sink out is the answer, in signed numbers.
  pub greatest_bounded : Flow N (at_place flow) → side ≡ side_from N (at_place flow) → marked side N.t ≡ false → value ≡ value_of b (at_place flow)
      → GreatestBounded b flow side value
  greatest_bounded valid is_side no_sink net =
      record {
        keeps = valid;
        net = net;
        greatest = λ other o.
            subst (λ z. value_of b other ≤ℤ z) (sym net)
            (less (outflow N other N.s) (inflow N other N.s) (outflow N f N.s) (inflow N f N.s) (answer.maximum other o));
        range =
            subst (λ z. nat_abs z ≤ 4096000000) (sym net)
            (size (outflow N f N.s) (inflow N f N.s) 4096000000
            (omega (arith, outflow_most N f N.s valid.high, all_capacities b accepted))
            (omega (arith, inflow_most N f N.s valid.high, all_capacities b accepted)));
        is_cut = answer.least.cut;
        cut = at_cut;
        least = λ X c.
            subst (λ z. z ≤ℤ cut_capacity b X) (sym at_cut)
            (less (leaving N R N.capacity) (entering N R N.low) (leaving N X N.capacity) (entering N X N.low) (answer.least.least X c));
        reached = reached;
        smallest = λ X c e. answer.smallest X (least_too X c e);
      }
    where
      f : ℕ → ℕ
      f = at_place flow

      R : ℕ → Bool
      R = marked side

      sound : Sound N
      sound = bounded_sound b accepted

      reached : Reached N f R
      reached = subst (λ row. Reached N f (marked row)) (sym is_side) (side_reached N f sound)

      answer : Answer N f R
      answer = reached_answer N sound f valid R reached no_sink

      at_cut : value ≡ cut_capacity b R
      at_cut =
          net
          ∙ same (outflow N f N.s) (inflow N f N.s) (leaving N R N.capacity) (entering N R N.low)
          (omega (arith, answer.value))

      least_too : (X : ℕ → Bool) → Cut N X → cut_capacity b X ≡ value → Least N X
      least_too X c e =
          record {
            cut = c;
            least = λ Y cy.
                omega (
                  arith,
                  answer.least.least Y cy,
                  same_only (leaving N X N.capacity) (entering N X N.low) (leaving N R N.capacity) (entering N R N.low) (e ∙ at_cut),
                );
          }
