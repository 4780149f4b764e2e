-- Laws of rows: a row after `set`, read as a function; rows made of a function.
use Prim.Native.Nat.{ℕ, zero, suc, ◌+◌, ◌-◌, ◌≤◌, ◌<◌}
use mathlib.Core.Path.{◌≡◌, refl, ap, sym, ◌∙◌, fun_ext}
use mathlib.Core.List.{List, [], ◌∷◌, ◌++◌, append_assoc, append-nil}
use native.Mathlib.Numerals.{add-one}
use native.Mathlib.Omega.{arith}
use lib.ListN.{length, get_or, set, take, drop, replicate, length-set, length-append, length-replicate, get_or-replicate, get_or-append, drop_of_length-le}
use lib.Seq.{get_or_at, get_or-set_same, get_or-set_other, ext_get_or, drop-cons, set_at}
use Rattle.rows.specs.Row.{Node, at_place, at_node, by_place, by_node}
use Rattle.rows.proofs.Functions.{put}
use Rattle.rows.specs.Sum.{total}
use Rattle.rows.proofs.Sums.{by_equal, put_same, put_other, sum_zero, sum_term, sum_change}

-- A place's number set: the function of the place, changed there.
pub place_set : (row : List ℕ) (i v : ℕ) → i < length row → at_place (set row i v) ≡ put (at_place row) i v
place_set row i v l = fun_ext at_each
  where
    at_each : (k : ℕ) → at_place (set row i v) k ≡ put (at_place row) i v k
    at_each k = by_equal k i
        (λ e. ap (λ j. get_or (set row i v) j 0) e ∙ get_or-set_same row i v 0 l ∙ sym (put_same (at_place row) i v k e))
        (λ e. get_or-set_other row i k v 0 e ∙ sym (put_other (at_place row) i v k e))

-- A node's number, read by its place.
pub node_at : (row : List ℕ) (i : ℕ) → 1 ≤ i → at_node row i ≡ get_or row (i - 1) 0
node_at row zero v = absurd (omega arith)
node_at row (suc k) v = ap (λ j. get_or row j 0) (omega arith)

-- A node's number set: the function of the node, changed there.
pub node_set : (row : List ℕ) (i v : ℕ) → Node (length row) i → at_node (set row (i - 1) v) ≡ put (at_node row) i v
node_set row i v n = fun_ext at_each
  where
    at_each : (j : ℕ) → at_node (set row (i - 1) v) j ≡ put (at_node row) i v j
    at_each zero = sym (put_other (at_node row) i v 0 (λ e. omega arith))
    at_each (suc k) =
        by_equal k (i - 1)
        (λ e. ap (λ j. get_or (set row (i - 1) v) j 0) e ∙ get_or-set_same row (i - 1) v 0 (omega arith) ∙ sym (put_same (at_node row) i v (suc k) (omega arith)))
        (λ e. get_or-set_other row (i - 1) k v 0 e ∙ sym (put_other (at_node row) i v (suc k) (λ p. e (omega arith))))

-- A function set to what it is at a place is itself.
pub put_self : (f : ℕ → ℕ) (i : ℕ) → put f i (f i) ≡ f
put_self f i = fun_ext (λ j. by_equal j i (λ e. put_same f i (f i) j e ∙ ap f (sym e)) (λ e. put_other f i (f i) j e))

-- ---- the row f 0, .., f (m - 1)

-- It has m numbers,
pub length_places : (f : ℕ → ℕ) (m : ℕ) → length (by_place f m) ≡ m
unfolding by_place
length_places f zero = refl
length_places f (suc m) = omega (arith, length-append (by_place f m) (f m ∷ []), length_places f m)

-- and f k at place k.
pub at_places : (f : ℕ → ℕ) (m k : ℕ) → k < m → at_place (by_place f m) k ≡ f k
unfolding by_place
at_places f zero k l = absurd (omega arith)
at_places f (suc m) k l =
    by_equal k m
    (λ e. get_or_at (by_place f m) (f m) [] 0 k (length_places f m ∙ sym e) ∙ ap f (sym e))
    (λ e. get_or-append (by_place f m) (f m ∷ []) 0 k (omega (arith, length_places f m)) ∙ at_places f m k (omega arith))

-- A row by node has f i at node i.
pub at_nodes : (f : ℕ → ℕ) (n i : ℕ) → Node n i → at_node (by_node f n) i ≡ f i
at_nodes f n zero v = absurd (omega arith)
at_nodes f n (suc k) v = at_places (λ k. f (suc k)) n k (omega arith)

-- A row is known by what it holds at its places.
pub row_is : (f : ℕ → ℕ) (m : ℕ) (row : List ℕ) → length row ≡ m → ((k : ℕ) → k < m → at_place row k ≡ f k) → row ≡ by_place f m
row_is f m row long each =
    ext_get_or 0 row (by_place f m) (long ∙ sym (length_places f m)) (λ k l. each k (omega arith) ∙ sym (at_places f m k (omega arith)))

-- Functions that agree below m make one row.
pub places_same : (f g : ℕ → ℕ) (m : ℕ) → ((k : ℕ) → k < m → f k ≡ g k) → by_place f m ≡ by_place g m
places_same f g m each = row_is g m (by_place f m) (length_places f m) (λ k l. at_places f m k l ∙ each k l)

-- A row of zeros.
pub zeros_by_place : (m : ℕ) → replicate m 0 ≡ by_place (λ k. 0) m
zeros_by_place m = row_is (λ k. 0) m (replicate m 0) (length-replicate m 0) (λ k l. get_or-replicate m k 0 0 l)

-- It holds 0 at every place, its own and later ones.
pub zero_at : (m k : ℕ) → at_place (replicate m 0) k ≡ 0
zero_at zero k = refl
zero_at (suc m) zero = refl
zero_at (suc m) (suc k) = zero_at m k

-- The first m of n zeros.
pub zeros_taken : (m n : ℕ) → m ≤ n → ◌≡◌ {A = List ℕ} (take m (replicate n 0)) (replicate m 0)
zeros_taken zero n l = refl
zeros_taken (suc m) zero l = absurd (omega arith)
zeros_taken (suc m) (suc n) l = ap (λ (row : List ℕ). 0 ∷ row) (zeros_taken m n (omega arith))

-- A store of f k at place k, where the places below k hold f, makes one place more.
pub fill_place : (f : ℕ → ℕ) (k x : ℕ) (old : List ℕ) → k < length old → x ≡ f k
    → set (by_place f k ++ drop k old) k x ≡ by_place f (k + 1) ++ drop (k + 1) old
unfolding by_place
fill_place f k x old l e =
    rw (drop-cons old k 0 l, set_at (by_place f k) (get_or old k 0) (drop (suc k) old) x k (length_places f k), e, add-one, append_assoc)

-- With no place stored the row is as it was,
pub fill_none : (f : ℕ → ℕ) (old : List ℕ) → old ≡ by_place f 0 ++ drop 0 old
unfolding by_place
fill_none f old = refl

-- and with every place stored nothing is left of it.
pub fill_all : (f : ℕ → ℕ) (m : ℕ) (old : List ℕ) → length old ≤ m → by_place f m ++ drop m old ≡ by_place f m
fill_all f m old short = rw (drop_of_length-le old short, append-nil)

-- A row that is cleared to its end is a row of zeros.
pub cleared_whole : (row old : List ℕ) (m : ℕ) → m ≡ length old → row ≡ replicate m 0 ++ drop m old → row ≡ replicate m 0
cleared_whole row old m all e =
    let past : length old ≤ m = omega arith in
    e ∙ rw (drop_of_length-le old past, append-nil)

-- ---- the sum of a row

-- A row of zeros sums to 0.
pub total_zeros : (n : ℕ) → total (replicate n 0) ≡ 0
total_zeros n = sum_zero (length (replicate n 0)) (at_place (replicate n 0)) (λ k _. zero_at n k)
  where
    zero_at : (n k : ℕ) → at_place (replicate n 0) k ≡ 0
    zero_at zero k = refl
    zero_at (suc n) zero = refl
    zero_at (suc n) (suc k) = zero_at n k

-- A store changes the sum by the difference.
pub total_set : (row : List ℕ) (k x : ℕ) → k < length row → total (set row k x) + at_place row k ≡ total row + x
total_set row k x l =
    rw (length-set, place_set row k x l)
    (omega (
      arith,
      sum_change (length row) (at_place row) (put (at_place row) k x) k l (λ j _ e. put_other (at_place row) k x j e),
      put_same (at_place row) k x k refl,
    ))

-- No two numbers of a row are above its sum.
pub total_two : (row : List ℕ) (i j : ℕ) → i < length row → j < length row → (j ≡ i → ⊥) → at_place row i + at_place row j ≤ total row
total_two row i j l m apart =
    omega (
      arith,
      total_set row i 0 l,
      length-set row i 0,
      sum_term (length (set row i 0)) (at_place (set row i 0)) j (omega (arith, length-set row i 0)),
      ap (λ f. f j) (place_set row i 0 l),
      put_other (at_place row) i 0 j apart,
    )
