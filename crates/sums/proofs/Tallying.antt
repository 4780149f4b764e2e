-- Laws of the code that adds up by node.
use Prim.Native.Nat.{ℕ, zero, suc, ◌+◌, ◌-◌, ◌*◌, ◌≤◌, ◌<◌}
use mathlib.Core.Path.{◌≡◌, refl, sym, ap, subst, ◌∙◌}
use mathlib.Core.List.{List}
use native.Mathlib.Omega.{arith}
use lib.ListN.{length, set, take, replicate, length-set}
use Rattle.rows.specs.Row.{Node, at_place, at_node}
use Rattle.rows.specs.Sum.{sum}
use Rattle.rows.proofs.Functions.{put}
use Rattle.rows.proofs.Sums.{by_equal, put_same, put_other}
use Rattle.rows.proofs.Rows.{node_set}
use Rattle.start.specs.Sums.{sum_at}
use Rattle.start.proofs.Scaling.{sum_on, sum_past}
use Rattle.sums.specs.Tallied.{Tallied}

-- A row of zeros has nothing added up.
zero_at : (n m k : ℕ) → at_place (take n (replicate m 0)) k ≡ 0
zero_at zero m k = refl
zero_at (suc n) zero k = refl
zero_at (suc n) (suc m) zero = refl
zero_at (suc n) (suc m) (suc k) = zero_at n m k

-- Nothing is added up in a row of zeros.
pub tallied_none : (ends flow : List ℕ) (n m : ℕ) → Tallied ends flow 0 (take n (replicate m 0))
unfolding sum
tallied_none ends flow n m = record { exact = λ i v. at i; small = λ i v. omega (arith, at i) }
  where
    at : (i : ℕ) → at_node (take n (replicate m 0)) i ≡ 0
    at zero = refl
    at (suc k) = zero_at n m k

module _ {ends flow sums : List ℕ} (k : ℕ) (so : Tallied ends flow k sums) (node : Node (length sums) (at_place ends k)) where
  -- One flow more.
  pub tallied_more : at_place flow k < 4294967296 → {after : List ℕ} → after ≡ set sums (at_place ends k - 1) (at_node sums (at_place ends k) + at_place flow k)
      → Tallied ends flow (k + 1) after
  tallied_more small e =
      subst (Tallied ends flow (k + 1)) (sym e)
      (record {
        exact = λ i v. let w : Node (length sums) i = omega (arith, same_long) in at i ∙ exact_at i w;
        small = λ i v. let w : Node (length sums) i = omega (arith, same_long) in omega (arith, at i, small_at i w);
      })
    where
      end : ℕ
      end = at_place ends k

      more : ℕ
      more = at_node sums (at_place ends k) + at_place flow k

      same_long : length (set sums (at_place ends k - 1) (at_node sums (at_place ends k) + at_place flow k)) ≡ length sums
      same_long = length-set sums (at_place ends k - 1) (at_node sums (at_place ends k) + at_place flow k)

      at : (i : ℕ) → at_node (set sums (at_place ends k - 1) (at_node sums (at_place ends k) + at_place flow k)) i ≡ put (at_node sums) (at_place ends k) (at_node sums (at_place ends k) + at_place flow k) i
      at i = ap (λ f. f i) (node_set sums (at_place ends k) (at_node sums (at_place ends k) + at_place flow k) node)

      exact_at : (i : ℕ) → Node (length sums) i → put (at_node sums) (at_place ends k) (at_node sums (at_place ends k) + at_place flow k) i ≡ sum_at ends flow i (k + 1)
      exact_at i v =
          by_equal i (at_place ends k)
          (λ q.
          put_same (at_node sums) (at_place ends k) (at_node sums (at_place ends k) + at_place flow k) i q
          ∙ ap (λ x. x + at_place flow k) (ap (at_node sums) (sym q) ∙ so.exact i v)
          ∙ sym (sum_on ends flow i k (sym q)))
          (λ q.
          put_other (at_node sums) (at_place ends k) (at_node sums (at_place ends k) + at_place flow k) i q
          ∙ so.exact i v
          ∙ sym (sum_past ends flow i k (λ p. q (sym p))))

      small_at : (i : ℕ) → Node (length sums) i → put (at_node sums) (at_place ends k) (at_node sums (at_place ends k) + at_place flow k) i ≤ 4294967296 * (k + 1)
      small_at i v =
          by_equal i (at_place ends k)
          (λ q. omega (arith, put_same (at_node sums) (at_place ends k) (at_node sums (at_place ends k) + at_place flow k) i q, so.small (at_place ends k) node))
          (λ q. omega (arith, put_other (at_node sums) (at_place ends k) (at_node sums (at_place ends k) + at_place flow k) i q, so.small i v))
