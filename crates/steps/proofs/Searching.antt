-- Laws of the arc search and of the relabel's least label, one place at a time.
use Rattle.std.specs.Prelude.{Some, None}
use Prim.Native.Nat.{ℕ, zero, suc, ◌+◌, ◌-◌, ◌≤◌, ◌<◌}
use native.Mathlib.Numerals.{add-one}
use native.Mathlib.Omega.{arith}
use mathlib.Core.Path.{◌≡◌, refl, sym, ap, ◌∙◌, subst, subst⁻¹}
use mathlib.Core.Bool.{Bool, true, false}
use mathlib.Core.List.{List}
use lib.ListN.{length, drop, drop_of_length-le}
use lib.Seq.{drop-cons}
use borrow.Author.Tests.{eq-eqb, ne_eqb, eqb-true}
use Rattle.rows.specs.Row.{Node, at_place, at_node}
use Rattle.rows.proofs.Sums.{by_equal, by_order}
use Rattle.network.specs.Network.{far_end}
use Rattle.table.specs.Table.{Table, table_of, network_of, tail, head}
use Rattle.table.specs.Accepted.{ArcRows}
use Rattle.arcs.specs.Residual.{way, far, residual, touches}
use Rattle.run.specs.Start.{State}
use Rattle.run.specs.Push.{eligible, first_eligible}
use Rattle.run.specs.Relabel.{lesser, least_far}
use Rattle.run.proofs.Arcs.{lesser_le, lesser_far}
use Rattle.looking.specs.Looked.{NoneBefore, HighBefore}

-- What holds of both ends of an arc holds of the far one.
pub far_either : (P : ℕ → Type 0) (t : Table) (i k : ℕ) → P (head t k) → P (tail t k) → P (far t i k)
far_either P t i k at_head at_tail = go (way t i k)
  where
    go : (b : Bool) → P (far_end (network_of t) k b)
    go true = at_head
    go false = at_tail

-- The far end of an arc is a node.
pub far_node : {n k : ℕ} {tails heads capacities : List ℕ} (s t i : ℕ) → ArcRows n tails heads capacities → k < length capacities
    → (j : ℕ) → j ≡ far (table_of n s t tails heads capacities) i k → Node n j
far_node {n} {k} {tails} {heads} {capacities} s t i rows l j e =
    subst⁻¹ (Node n) e
    (far_either (Node n) (table_of n s t tails heads capacities) i k
    (rows.ends.head_node k (omega (arith, rows.capacities_long))) (rows.ends.tail_node k (omega (arith, rows.capacities_long))))

-- Of an arc that touches i the far end is what both ends add up to, less i.
pub far_sum : (t : Table) (i k : ℕ) → touches t i k ≡ true → (i ≤ tail t k + head t k) × ((tail t k + head t k) - i ≡ far t i k)
far_sum t i k e =
    by_equal (tail t k) i
    (λ is. (omega arith, rw (eq-eqb (tail t k) i is) (omega arith)))
    (λ ne.
    let is : head t k ≡ i = eqb-true (head t k) i (rw (ne_eqb (tail t k) i ne) at e) in
    (omega arith, rw (ne_eqb (tail t k) i ne) (omega arith)))

-- The position where the least label is met is not past the one that is looked at.
pub met_within : (least label at new j : ℕ) → at ≤ j → (label < least → new ≡ j) × (least ≤ label → new ≡ at) → new ≤ j
met_within least label at new j l met =
    by_order least label (λ same. omega (arith, met.1 same)) (λ less. omega (arith, met.0 less))

module _ (t : Table) (st : State) (i : ℕ) (places : List ℕ) (j : ℕ) where
  -- An eligible place is found where it stands.
  pub search_here : j < length places → true ≡ eligible t st i (at_place places j)
      → first_eligible t st i (drop j places) ≡ Some (at_place places j)
  unfolding first_eligible
  search_here h e = rw (drop-cons places j 0 h, ← e)

  -- Any other is passed over.
  pub search_on : j < length places → false ≡ eligible t st i (at_place places j)
      → first_eligible t st i (drop j places) ≡ first_eligible t st i (drop (j + 1) places)
  unfolding first_eligible
  search_on h e = rw (drop-cons places j 0 h, ← e, add-one)

  -- Past the end nothing is found.
  pub search_end : length places ≤ j → first_eligible t st i (drop j places) ≡ None
  unfolding first_eligible
  search_end h = rw (drop_of_length-le places h)

  -- No residual arc leads below the least label so far: so after one more place.
  pub high_more : (least label : ℕ) → HighBefore t st i places j least → label ≡ lesser t st i (at_place places j) least
      → HighBefore t st i places (j + 1) label
  high_more least label high is q l some =
      by_equal q j
      (λ e.
      let here : 0 < residual t st.flow i (at_place places j) = subst (λ (x : ℕ). 0 < residual t st.flow i (at_place places x)) e some in
      omega (arith, is, lesser_far t st i (at_place places j) least here, ap (λ (x : ℕ). at_node st.label (far t i (at_place places x))) e))
      (λ ne. omega (arith, high q (omega arith) some, is, lesser_le t st i (at_place places j) least))

  -- None leads so low before the position `new` where the least label is first met, now or before at `at`.
  pub high_met : (least label at new : ℕ) → label ≤ least → (label < least → new ≡ j) × (least ≤ label → new ≡ at)
      → HighBefore t st i places j least → HighBefore t st i places at (least + 1) → HighBefore t st i places new (label + 1)
  high_met least label at new falls met high before q l some =
      by_order least label
      (λ same. omega (arith, before q (omega (arith, met.1 same)) some))
      (λ less. omega (arith, high q (omega (arith, met.0 less)) some))

  -- The least label after one more place.
  pub least_on : (best : ℕ) → j < length places
      → least_far t st i (drop j places) best
      ≡ least_far t st i (drop (j + 1) places) (lesser t st i (at_place places j) best)
  unfolding least_far
  least_on best h = rw (drop-cons places j 0 h, add-one)

  -- Past the end it is the one found so far.
  pub least_end : (best : ℕ) → length places ≤ j → least_far t st i (drop j places) best ≡ best
  unfolding least_far
  least_end best h = rw (drop_of_length-le places h)

module _ (t : Table) (st : State) (i : ℕ) (places : List ℕ) where
  -- Where nothing before p is eligible the search may begin at p.
  search_from : (p : ℕ) → p ≤ length places → NoneBefore t st i places p → first_eligible t st i places ≡ first_eligible t st i (drop p places)
  search_from zero h none = refl
  search_from (suc p) h none =
      search_from p (omega arith) (λ j l. none j (omega arith))
      ∙ search_on t st i places p h (sym (none p (omega arith)))
      ∙ ap (λ (q : ℕ). first_eligible t st i (drop q places)) (add-one p)

  -- So the first eligible place is the one at the position where the search stopped,
  pub found_at : (p k : ℕ) → p < length places → k ≡ at_place places p → NoneBefore t st i places p → eligible t st i k ≡ true
      → Some k ≡ first_eligible t st i places
  found_at p k h here none is =
      ap Some here ∙ sym (search_from p (omega arith) none ∙ search_here t st i places p h (sym is ∙ ap (eligible t st i) here))

  -- and there is none where it came to the end.
  pub found_none : NoneBefore t st i places (length places) → None ≡ first_eligible t st i places
  found_none none = sym (search_from (length places) (omega arith) none ∙ search_end t st i places (length places) (omega arith))
