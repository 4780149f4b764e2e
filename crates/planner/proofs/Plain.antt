-- Where all minimums are 0, document 01's answer is a greatest bounded flow too: demand 2 reads the same for every table.
use Prim.Native.Nat.{ℕ, ◌+◌, ◌-◌}
use mathlib.Core.Path.{◌≡◌, sym, ap, subst, ◌∙◌}
use mathlib.Core.Bool.{true}
use mathlib.Core.List.{List}
use native.Mathlib.Omega.{arith}
use borrow.Author.Tests.{eqb-true}
use lib.IntN.{pos, ◌-ℤ◌}
use lib.ListN.{length}
use lib.Dec.{eqb}
use Rattle.rows.specs.Row.{at_place}
use Rattle.rows.proofs.Sums.{both_true}
use Rattle.network.specs.Network.{Flow, inflow, outflow}
use Rattle.table.specs.Table.{arcs, network_of}
use Rattle.table.specs.Accepted.{Accepted}
use Rattle.reach.specs.Side.{side_of, side_from}
use Rattle.run.specs.Phase.{run, value}
use Rattle.run.proofs.Answers.{run_best}
use Rattle.shortest.proofs.Instances.{no_minimums}
use Rattle.feasible.specs.Flows.{bounded_network}
use Rattle.bounded.specs.Bounded.{GreatestBounded}
use Rattle.minimums.specs.BoundedTable.{BoundedTable, AcceptedBounded}
use Rattle.bounded.proofs.Largest.{greatest_bounded}
use Rattle.bounded.proofs.Signed.{at_least}
use Rattle.minimums.specs.Checks.{all_zero, plain}
use Rattle.minimums.proofs.Zeros.{all_zero_at}

module _ (b : BoundedTable) (ok : Accepted b.table) (all : plain b ≡ true) where
  -- As many minimums as arcs, and each is 0.
  zeros : (length b.minimums ≡ arcs b.table) × (all_zero b.minimums ≡ true)
  zeros = let (long, none) = both_true (eqb (length b.minimums) (arcs b.table)) (all_zero b.minimums) all in (eqb-true _ _ long, none)

  -- The bounded table is accepted,
  pub plain_accepted : AcceptedBounded b
  plain_accepted =
      record {
        source = ok.source;
        sink = ok.sink;
        apart = ok.apart;
        rows =
            record {
              arcs = ok.rows;
              minimums_long = zeros.0;
              within = λ k l. omega (arith, all_zero_at b.minimums zeros.1 k);
            };
      }

  -- and document 01's answer is of greatest value.
  pub plain_greatest : GreatestBounded b (run b.table).state.flow (side_of b.table (run b.table).state.flow) (pos (value b.table (run b.table).state.flow))
  plain_greatest =
      let t = b.table in
      let same : network_of t ≡ bounded_network b
      = sym (no_minimums t.nodes t.source t.sink t.tails t.heads t.capacities b.minimums (all_zero_at b.minimums zeros.1)) in
      let best = run_best b.table ok in
      let flow : List ℕ = (run b.table).state.flow in
      let out = outflow (network_of b.table) (at_place flow) b.table.source in
      let into = inflow (network_of b.table) (at_place flow) b.table.source in
      greatest_bounded b plain_accepted flow (side_of b.table flow) (pos (value b.table flow))
      (subst (λ N. Flow N (at_place flow)) same best.answer.valid)
      (ap (λ N. side_from N (at_place flow)) same)
      best.answer.least.cut.sink
      (ap pos (left out into (value b.table flow) best.net)
      ∙ sym (at_least out into (omega (arith, best.net)))
      ∙ ap (λ N. pos (outflow N (at_place flow) b.table.source) -ℤ pos (inflow N (at_place flow) b.table.source)) same)
    where
      left : (a c v : ℕ) → a ≡ c + v → v ≡ a - c
      left a c v e = omega arith
