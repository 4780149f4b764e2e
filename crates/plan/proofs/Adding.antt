-- Rows by node: x added at a node, and nothing elsewhere.
use Prim.Native.Nat.{ℕ, ◌+◌, ◌-◌, ◌<◌, ◌≤◌}
use mathlib.Core.Path.{◌≡◌, sym, ap, subst}
use mathlib.Core.Bool.{false}
use mathlib.Core.List.{List}
use native.Mathlib.Omega.{arith}
use lib.Dec.{eqb}
use lib.ListN.{length, get_or, set}
use lib.Seq.{get_or-set_same, get_or-set_other}
use borrow.Author.Tests.{eq-eqb, ne_eqb}
use Rattle.rows.specs.Row.{Node}
use Rattle.rows.specs.Sum.{only}
use Rattle.rows.proofs.Sums.{by_equal, only_true, only_false}
use Rattle.pairs.specs.Places.{is_node}
use Rattle.pairs.proofs.Chains.{node_none}
use Rattle.plan.specs.Rows.{Adds}

-- Nothing is added at a number that is no node,
pub adds_none : (n : ℕ) (row : List ℕ) (i x : ℕ) → is_node n i ≡ false → Adds n row row (λ j. only (eqb i j) x)
adds_none n row i x e = (λ j v. omega (arith, only_false (eqb i j) x (ne_eqb i j (λ same. node_none n i e (subst (Node n) (sym same) v)))), λ k. omega arith)

-- and at a node x.
pub adds_one : (n : ℕ) (row : List ℕ) (i x y : ℕ) → Node n i → i - 1 < length row → x ≤ 4294967295 → y ≡ x
    → Adds n row (set row (i - 1) (get_or row (i - 1) 0 + y)) (λ j. only (eqb i j) x)
adds_one n row i x y v l fits e = (
  λ j w.
      by_equal (j - 1) (i - 1)
      (λ same.
      let p : i ≡ j = omega arith in
      omega (arith, ap (λ (k : ℕ). get_or (set row (i - 1) new) k 0) same, ap (λ (k : ℕ). get_or row k 0) same, get_or-set_same row (i - 1) new 0 l, only_true (eqb i j) x (eq-eqb i j p)))
      (λ other. omega (arith, get_or-set_other row (i - 1) (j - 1) new 0 other, only_false (eqb i j) x (ne_eqb i j (λ p. other (ap (λ (k : ℕ). k - 1) (sym p)))))),
  λ k.
      by_equal k (i - 1)
      (λ same. omega (arith, ap (λ (k : ℕ). get_or (set row (i - 1) new) k 0) same, ap (λ (k : ℕ). get_or row k 0) same, get_or-set_same row (i - 1) new 0 l))
      (λ other. omega (arith, get_or-set_other row (i - 1) k new 0 other)),
)
  where
    new : ℕ
    new = get_or row (i - 1) 0 + y
