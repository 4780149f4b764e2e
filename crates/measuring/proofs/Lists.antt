-- The nodes' lists are those of the residual arcs.
use Prim.Native.Nat.{ℕ, zero, suc, ◌+◌, ◌<◌}
use mathlib.Core.Path.{◌≡◌, ap, ◌∙◌}
use mathlib.Core.Logic.{◌⊎◌, inl, inr}
use mathlib.Core.Bool.{Bool, true, false, cond, ◌||◌}
use mathlib.Core.List.{List, [], ◌∷◌, ◌++◌}
use native.Mathlib.Omega.{arith}
use lib.Dec.{eqb, ltb}
use lib.ListN.{length, length-append, get_or-append}
use lib.Seq.{get_or-append_seam}
use borrow.Author.Tests.{ltb-true, ltb-false, eqb-true, eq-eqb}
use Rattle.rows.specs.Row.{at_place}
use Rattle.rows.proofs.Sums.{by_test}
use Rattle.table.specs.Table.{Table, table_of}
use Rattle.arcs.specs.Residual.{touches, list_to, list}
use Rattle.arcs.proofs.Members.{list_touches, touches_list, stands_member, member_stands}
use Rattle.measuring.specs.Visits.{ListOf}
use Rattle.minimums.specs.BoundedTable.{bounded_of}
use Rattle.shortest.specs.Rows.{row_ways, Rows}

-- One place more at the end of a list: each from before stays, and the last is the new one.
module _ (l : List ℕ) (m : ℕ) where
  -- The list is longer by one.
  longer : length (l ++ (m ∷ [])) ≡ length l + 1
  longer = length-append l (m ∷ [])

  -- Each from before stays.
  from_before : (q : ℕ) → q < length l → at_place (l ++ (m ∷ [])) q ≡ at_place l q
  from_before q h = get_or-append l (m ∷ []) 0 q h

  -- The last is the new one.
  the_last : (q : ℕ) → q ≡ length l → at_place (l ++ (m ∷ [])) q ≡ m
  the_last q e = ap (at_place (l ++ (m ∷ []))) e ∙ get_or-append_seam l m [] 0

-- A list among the places below m has such places only,
below_to : (t : Table) (i m q : ℕ) → q < length (list_to t i m) → at_place (list_to t i m) q < m
unfolding list_to
below_to t i zero q h = absurd (omega arith)
below_to t i (suc m) q h = go (list_to t i m) (below_to t i m q) (touches t i m) h
  where
    go : (l : List ℕ) → (q < length l → at_place l q < m) → (b : Bool) → q < length (cond b (l ++ (m ∷ [])) l) → at_place (cond b (l ++ (m ∷ [])) l) q < suc m
    go l before true r =
        by_test (ltb q (length l))
        (λ y. let in_front = ltb-true q (length l) y in omega (arith, from_before l m q in_front, before in_front))
        (λ y. let behind = ltb-false q (length l) y in
        let end : q ≡ length l = omega (arith, longer l m) in
        omega (arith, the_last l m q end))
    go l before false r = omega (arith, before r)

-- and they rise.
rises_to : (t : Table) (i m p q : ℕ) → p < q → q < length (list_to t i m) → at_place (list_to t i m) p < at_place (list_to t i m) q
unfolding list_to
rises_to t i zero p q l h = absurd (omega arith)
rises_to t i (suc m) p q l h = go (list_to t i m) (rises_to t i m p q l) (below_to t i m p) (touches t i m) h
  where
    go : (row : List ℕ) → (q < length row → at_place row p < at_place row q) → (p < length row → at_place row p < m) → (b : Bool)
        → q < length (cond b (row ++ (m ∷ [])) row) → at_place (cond b (row ++ (m ∷ [])) row) p < at_place (cond b (row ++ (m ∷ [])) row) q
    go row before below true r =
        by_test (ltb q (length row))
        (λ y. let in_front = ltb-true q (length row) y in
        omega (arith, from_before row m q in_front, from_before row m p (omega arith), before in_front))
        (λ y. let behind = ltb-false q (length row) y in
        let end : q ≡ length row = omega (arith, longer row m) in
        omega (arith, the_last row m q end, from_before row m p (omega arith), below (omega arith)))
    go row before below false r = before r

-- Of two tests one passes.
either : (a b x y : ℕ) → eqb a x || eqb b y ≡ true → (a ≡ x) ⊎ (b ≡ y)
either a b x y e =
    by_test (eqb a x)
    (λ p. inl (eqb-true a x p))
    (λ p. inr (eqb-true b y (rw p at e)))

-- and the other way round.
one_passes : (a b x y : ℕ) → (a ≡ x) ⊎ (b ≡ y) → eqb a x || eqb b y ≡ true
one_passes a b x y (inl p) = rw (eq-eqb a x p)
one_passes a b x y (inr p) = by_test (eqb a x) (λ e. rw e) (λ e. rw (e, eq-eqb b y p))

-- A node's list has the places of the residual arcs that touch it.
pub listed : {n s u : ℕ} {tails heads capacities minimums flow : List ℕ} → Rows (bounded_of n s u tails heads capacities minimums) flow → (i : ℕ)
    → ListOf (row_ways tails heads capacities minimums flow) i (list (table_of n s u tails heads capacities) i)
unfolding list
listed {n} {s} {u} {tails} {heads} {capacities} rows i =
    record {
      each = λ q h. below_to t i (length capacities) q h;
      touching = λ q h. either (at_place tails (at_place (list_to t i (length capacities)) q)) (at_place heads (at_place (list_to t i (length capacities)) q)) i i (touch q h);
      all = λ k l touch. member_stands (list_to t i (length capacities)) k (touches_list t i k l (one_passes (at_place tails k) (at_place heads k) i i touch));
      rises = rises_to t i (length capacities);
    }
  where
    t : Table
    t = table_of n s u tails heads capacities

    touch : (q : ℕ) → q < length (list_to (table_of n s u tails heads capacities) i (length capacities)) → touches (table_of n s u tails heads capacities) i (at_place (list_to (table_of n s u tails heads capacities) i (length capacities)) q) ≡ true
    touch q h = (list_touches (table_of n s u tails heads capacities) i (stands_member (list_to (table_of n s u tails heads capacities) i (length capacities)) q h)).1
