-- Laws of the code that writes the joined network's capacities, with sums by node made in one pass over the arcs.
use Prim.Native.Nat.{ℕ, suc, ◌+◌, ◌-◌, ◌<◌}
use mathlib.Core.Path.{◌≡◌, refl, ap, sym, subst, ◌∙◌}
use mathlib.Core.List.{List}
use native.Mathlib.Omega.{arith}
use lib.ListN.{length, take, replicate}
use lib.Seq.{length-take-le}
use Rattle.rows.specs.Row.{at_place, by_place}
use Rattle.rows.proofs.Rows.{places_same}
use Rattle.start.specs.Sums.{sum_at}
use Rattle.sums.specs.Tallied.{Tallied}
use Rattle.sums.proofs.Tallying.{tallied_none}
use Rattle.joining.specs.Joining.{joined_arcs, in_block, joined_capacity, capacity_at, Numbers, Summable}
use Rattle.joining.proofs.Blocks.{block_same}
use Rattle.joining.proofs.Sums.{small_sum}

-- A row of sums has at each place the sum of the place's node.
sum_at_place : {ends held sums : List ℕ} → Tallied ends held (length ends) sums → (j : ℕ) → j < length sums → at_place sums j ≡ sum_at ends held (j + 1) (length ends)
sum_at_place {ends} {held} so j l =
    let next : suc j ≡ j + 1 = omega arith in
    so.exact (suc j) (omega arith, omega arith) ∙ ap (λ i. sum_at ends held i (length ends)) next

module _ {n : ℕ} {tails heads capacities minimums : List ℕ} (rows : Summable n tails heads capacities minimums) where
  module _ {entering leaving : List ℕ} (n_enter : length entering ≡ n) (n_leave : length leaving ≡ n)
      (enters : Tallied heads minimums (length heads) entering) (leaves : Tallied tails minimums (length tails) leaving) where
    -- The sums fit 32 bits.
    pub numbers : Numbers capacities minimums entering leaving
    numbers =
        record {
          nodes = omega (arith, rows.ends.few_nodes);
          few = omega (arith, rows.minimums_long, rows.ends.few_arcs);
          capacities_long = rows.capacities_long;
          leaving_long = n_leave ∙ sym n_enter;
          entering_small = λ j l. omega (arith, sum_at_place enters j l, small_sum rows.at_heads (j + 1));
          leaving_small = λ j l. omega (arith, sum_at_place leaves j (omega arith), small_sum rows.at_tails (j + 1));
        }

    -- The capacities read off them are those of the joined network.
    pub summed : {row : List ℕ} (size : ℕ) → size ≡ joined_arcs n (length minimums) → row ≡ by_place (capacity_at capacities minimums entering leaving) size
        → row ≡ by_place (joined_capacity n tails heads capacities minimums (length minimums)) (joined_arcs n (length minimums))
    summed size all is =
        is
        ∙ ap (by_place (capacity_at capacities minimums entering leaving)) all
        ∙ places_same (capacity_at capacities minimums entering leaving) (joined_capacity n tails heads capacities minimums m) (joined_arcs n m)
        (λ k l.
        ap (λ x. in_block x m k (at_place capacities k - at_place minimums k) (at_place entering (k - m)) (at_place leaving (k - (m + x))) 4096000000 4096000000) n_enter
        ∙ block_same n m k _ _ _ _ _ 4096000000 4096000000
        (λ h b. sum_at_place enters (k - m) (omega arith) ∙ ap (sum_at heads minimums (k - m + 1)) heads_many)
        (λ h b. sum_at_place leaves (k - (m + n)) (omega arith) ∙ ap (sum_at tails minimums (k - (m + n) + 1)) tails_many))
      where
        m : ℕ
        m = length minimums

        tails_many : length tails ≡ length minimums
        tails_many = sym rows.minimums_long

        heads_many : length heads ≡ length minimums
        heads_many = rows.ends.heads_long ∙ tails_many

  -- A row of n zeros has n numbers.
  pub zeros_long : length (take n (replicate {A = ℕ} 512 0)) ≡ n
  zeros_long = length-take-le n (replicate 512 0) rows.ends.few_nodes

  -- With rows of zeros for the sums all is there that is asked.
  pub zeros_asked : (size : ℕ) → size ≡ joined_arcs n (length minimums)
      → Summable (length (take n (replicate {A = ℕ} 512 0))) tails heads capacities minimums
      × (((length (take n (replicate {A = ℕ} 512 0)) ≡ length (take n (replicate {A = ℕ} 512 0))) × (size ≡ joined_arcs (length (take n (replicate {A = ℕ} 512 0))) (length minimums)))
      × (Tallied heads minimums 0 (take n (replicate 512 0)) × Tallied tails minimums 0 (take n (replicate 512 0))))
  zeros_asked size e = (
    subst (λ c. Summable c tails heads capacities minimums) (sym zeros_long) rows,
    ((refl, e ∙ ap (λ c. joined_arcs c (length minimums)) (sym zeros_long)), (tallied_none heads minimums n 512, tallied_none tails minimums n 512)),
  )

  -- As many sums as there are zeros are n sums.
  pub zeros_same : {row : List ℕ}
      → row ≡ by_place (joined_capacity (length (take n (replicate {A = ℕ} 512 0))) tails heads capacities minimums (length minimums)) (joined_arcs (length (take n (replicate {A = ℕ} 512 0))) (length minimums))
      → row ≡ by_place (joined_capacity n tails heads capacities minimums (length minimums)) (joined_arcs n (length minimums))
  zeros_same is =
      is ∙ ap (λ c. by_place (joined_capacity c tails heads capacities minimums (length minimums)) (joined_arcs c (length minimums))) zeros_long
