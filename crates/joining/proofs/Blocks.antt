-- Laws of the code that writes the joined network's rows: the four blocks of places, and a row filled place by place.
use Prim.Native.Nat.{ℕ, ◌+◌, ◌≤◌, ◌<◌}
use mathlib.Core.Path.{◌≡◌, ap, sym, ◌∙◌}
use mathlib.Core.List.{List, ◌++◌}
use native.Mathlib.Omega.{arith}
use borrow.Author.Tests.{eq-eqb, ne_eqb, lt-ltb, le-ltb}
use lib.ListN.{length, set, drop}
use Rattle.rows.specs.Row.{by_place}
use Rattle.rows.proofs.Sums.{by_equal, by_order}
use Rattle.rows.proofs.Rows.{fill_none, fill_place}
use Rattle.joining.specs.Joining.{in_block}

-- What stands in each block.
module _ (n m k old ins outs forth back : ℕ) where
  pub block_old : k < m → old ≡ in_block n m k old ins outs forth back
  unfolding in_block
  block_old l = rw (lt-ltb k m l)

  pub block_in : m ≤ k → k < m + n → ins ≡ in_block n m k old ins outs forth back
  unfolding in_block
  block_in h l = rw (le-ltb k m h, lt-ltb k (m + n) l)

  pub block_out : m + n ≤ k → k < m + (n + n) → outs ≡ in_block n m k old ins outs forth back
  unfolding in_block
  block_out h l = rw (le-ltb k m (omega arith), le-ltb k (m + n) h, lt-ltb k (m + (n + n)) l)

  pub block_forth : m + (n + n) ≤ k → k ≡ m + (n + n) → forth ≡ in_block n m k old ins outs forth back
  unfolding in_block
  block_forth h e = rw (le-ltb k m (omega arith), le-ltb k (m + n) (omega arith), le-ltb k (m + (n + n)) h, eq-eqb k (m + (n + n)) e)

  pub block_back : m + (n + n) ≤ k → (k ≡ m + (n + n) → ⊥) → back ≡ in_block n m k old ins outs forth back
  unfolding in_block
  block_back h ne = rw (le-ltb k m (omega arith), le-ltb k (m + n) (omega arith), le-ltb k (m + (n + n)) h, ne_eqb k (m + (n + n)) ne)

  -- Where both arcs between source and sink hold the same, the last two places are one case.
  pub block_last : forth ≡ back → m + (n + n) ≤ k → back ≡ in_block n m k old ins outs forth back
  block_last e h = by_equal k (m + (n + n)) (λ q. sym e ∙ block_forth h q) (λ q. block_back h q)

-- Two choices whose sums agree in their blocks.
pub block_same : (n m k old ins outs ins' outs' forth back : ℕ) → (m ≤ k → k < m + n → ins ≡ ins') → (m + n ≤ k → k < m + (n + n) → outs ≡ outs')
    → in_block n m k old ins outs forth back ≡ in_block n m k old ins' outs' forth back
block_same n m k old ins outs ins' outs' forth back same_in same_out =
    by_order m k
    (λ h.
    by_order (m + n) k
    (λ h₂.
    by_order (m + (n + n)) k
    (λ h₃.
    by_equal k (m + (n + n))
    (λ e. sym (block_forth n m k old ins outs forth back h₃ e) ∙ block_forth n m k old ins' outs' forth back h₃ e)
    (λ e. sym (block_back n m k old ins outs forth back h₃ e) ∙ block_back n m k old ins' outs' forth back h₃ e))
    (λ l. sym (block_out n m k old ins outs forth back h₂ l) ∙ same_out h₂ l ∙ block_out n m k old ins' outs' forth back h₂ l))
    (λ l. sym (block_in n m k old ins outs forth back h l) ∙ same_in h l ∙ block_in n m k old ins' outs' forth back h l))
    (λ l. sym (block_old n m k old ins outs forth back l) ∙ block_old n m k old ins' outs' forth back l)

-- The first k places of a row hold f, and the rest is as it was.
abbrev pub Written : (ℕ → ℕ) → (old row : List ℕ) → ℕ → Type 0
Written f old row k = row ≡ by_place f k ++ drop k old

-- Nothing is written yet,
pub written_none : (f : ℕ → ℕ) (old : List ℕ) → Written f old old 0
written_none f old = fill_none f old

-- and one place more is.
pub written_next : (f : ℕ → ℕ) (old row : List ℕ) (k : ℕ) → Written f old row k → (x : ℕ) → k < length old → x ≡ f k → Written f old (set row k x) (k + 1)
written_next f old row k so x l e = ap (λ r. set r k x) so ∙ fill_place f k x old l e
