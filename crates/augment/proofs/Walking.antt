-- Laws of the code's walk along the chain.
use Prim.Native.Nat.{ℕ, zero, suc, ◌+◌, ◌-◌, ◌≤◌, ◌<◌, min}
use mathlib.Core.Path.{◌≡◌, sym, ap, subst, ◌∙◌}
use mathlib.Core.Logic.{inl, ⊎_elim}
use mathlib.Core.Bool.{Bool, true, false, true≢false}
use mathlib.Core.List.{List, [], ◌∷◌, ◌++◌, append_assoc, append-nil}
use native.Mathlib.Omega.{arith}
use native.Mathlib.Numerals.{add-one}
use lib.ListN.{length, get_or, set, take, replicate, length-set, get_or-replicate}
use lib.Seq.{take-suc-set}
use lib.Dec.{eqb, ltb}
use borrow.Author.Tests.{lt-ltb, le-ltb, ltb-true, eq-eqb, ne_eqb}
use Rattle.rows.proofs.Rows.{node_at}
use Rattle.rows.proofs.Sums.{by_equal, both_true}
use Rattle.rows.specs.Row.{at_place, at_node, Node}
use Rattle.network.specs.Network.{Network, Flow, residual_over}
use Rattle.reach.proofs.Visiting.{left_test}
use Rattle.minimums.specs.BoundedTable.{bounded_of}
use Rattle.shortest.specs.Ways.{Ways, Leads, other_end}
use Rattle.shortest.specs.Distance.{leads_by, leads_to, lowest, next, chain_from, distances}
use Rattle.shortest.specs.Labels.{Labels, arrives}
use Rattle.shortest.specs.Augment.{ways_in, way_from, residual_from, far_from, least_with, least_residual}
use Rattle.shortest.specs.Rows.{row_ways, Rows}
use Rattle.shortest.proofs.Ends.{Ends, leads_within}
use Rattle.shortest.proofs.Laying.{set_there, set_elsewhere, distances_right}
use Rattle.shortest.proofs.Chains.{LowestIs, lowest_is, found_leads}
use Rattle.augment.specs.Walks.{Noted, Known, Walked}
use Rattle.augment.proofs.Pouring.{far_picked}

-- ---- `leads`: away from the tail, away from the head, or neither

-- The test of `leads`, by its ways out.
module _ (tail head i : ℕ) (fore back x y : Bool) where
  -- From the tail, and shut.
  pub tail_shut : tail ≡ i → fore ≡ false → false ≡ leads_by tail head i fore back x y
  unfolding leads_by
  tail_shut e f = rw (eq-eqb tail i e, f)

  -- From the tail, and open.
  pub tail_open : tail ≡ i → fore ≡ true → x ≡ leads_by tail head i fore back x y
  unfolding leads_by
  tail_open e f = rw (eq-eqb tail i e, f)

  -- From neither end.
  pub neither_end : (tail ≡ i → ⊥) → (head ≡ i → ⊥) → false ≡ leads_by tail head i fore back x y
  unfolding leads_by
  neither_end e f = rw (ne_eqb tail i e, ne_eqb head i f)

  -- From the head, and shut.
  pub head_shut : (tail ≡ i → ⊥) → head ≡ i → back ≡ false → false ≡ leads_by tail head i fore back x y
  unfolding leads_by
  head_shut e f g = rw (ne_eqb tail i e, eq-eqb head i f, g)

  -- From the head, and open.
  pub head_open : (tail ≡ i → ⊥) → head ≡ i → back ≡ true → y ≡ leads_by tail head i fore back x y
  unfolding leads_by
  head_open e f g = rw (ne_eqb tail i e, eq-eqb head i f, g)

-- The same where the end's distance is read by place.
module _ (dist : List ℕ) (tail head i d : ℕ) (fore back : Bool) where
  -- From the tail, and open.
  pub tail_open_at : (y : Bool) → 1 ≤ head → tail ≡ i → fore ≡ true → eqb (get_or dist (head - 1) 0) d ≡ leads_by tail head i fore back (eqb (at_node dist head) d) y
  tail_open_at y h e f = ap (λ x. eqb x d) (sym (node_at dist head h)) ∙ tail_open tail head i fore back (eqb (at_node dist head) d) y e f

  -- From the head, and open.
  pub head_open_at : (x : Bool) → 1 ≤ tail → (tail ≡ i → ⊥) → head ≡ i → back ≡ true → eqb (get_or dist (tail - 1) 0) d ≡ leads_by tail head i fore back x (eqb (at_node dist tail) d)
  head_open_at x h e f g = ap (λ z. eqb z d) (sym (node_at dist tail h)) ∙ head_open tail head i fore back x (eqb (at_node dist tail) d) e f g

-- ---- `next_place`

-- The test of the arc at place k, as the code makes it.
pub lead_test :
    {n s t : ℕ} {tails heads capacities minimums flow : List ℕ} → Rows (bounded_of n s t tails heads capacities minimums) flow → (dist : List ℕ) (d i k : ℕ)
    → leads_by (get_or tails k 0) (get_or heads k 0) i (ltb (get_or flow k 0) (get_or capacities k 0)) (ltb (get_or minimums k 0) (get_or flow k 0)) (eqb (at_node dist (get_or heads k 0)) d) (eqb (at_node dist (get_or tails k 0)) d)
    ≡ leads_to (row_ways tails heads capacities minimums flow) dist d i k
unfolding leads_to
lead_test {tails = tails} {heads} {capacities} {minimums} {flow} rows dist d i k =
    rw (left_test (get_or flow k 0) (get_or capacities k 0), left_test (get_or minimums k 0) (get_or flow k 0))

-- The lowest is the only one.
lowest_only : (test : ℕ → Bool) (k x y : ℕ) → LowestIs test k x → LowestIs test k y → x < y → ⊥
lowest_only test k x y a b l = ⊎_elim (λ p. true≢false (sym p.1 ∙ b.0 x l)) (λ e. ⊎_elim (λ p. omega (arith, p.0)) (λ q. omega arith) b.1) a.1

-- So whatever is lowest is that place.
pub lowest_unique : (test : ℕ → Bool) (k x : ℕ) → LowestIs test k x → x ≡ lowest test k
lowest_unique test k x a =
    by_equal x (lowest test k) (λ e. e)
    (λ ne. absurd (ne (omega (arith, lowest_only test k x (lowest test k) a (lowest_is test k), lowest_only test k (lowest test k) x (lowest_is test k) a))))

-- ---- `walk`

-- One place more.
pub walk_turn :
    (w : Ways) (row : List ℕ) (d e i p : ℕ) (chain whole : List ℕ) → p < length chain → d ≡ suc e → take p chain ++ chain_from w row d i ≡ whole
    → take (p + 1) (set chain p (next w row e i)) ++ chain_from w row e (other_end w i (next w row e i)) ≡ whole
unfolding chain_from
walk_turn w row d e i p chain whole l de so =
    ap (λ x. take x (set chain p (next w row e i)) ++ rest) (add-one p)
    ∙ ap (λ x. x ++ rest) (take-suc-set chain p (next w row e i) l)
    ∙ append_assoc (take p chain) (next w row e i ∷ []) rest
    ∙ ap (λ x. take p chain ++ chain_from w row x i) (sym de)
    ∙ so
  where
    rest : List ℕ
    rest = chain_from w row e (other_end w i (next w row e i))

-- The whole chain is there.
pub walk_done : (w : Ways) (row : List ℕ) (d i p : ℕ) (chain whole : List ℕ) → d ≡ 0 → take p chain ++ chain_from w row d i ≡ whole → take p chain ≡ whole
unfolding chain_from
walk_done w row d i p chain whole z so = sym (append-nil (take p chain)) ∙ ap (λ x. take p chain ++ chain_from w row x i) (sym z) ∙ so

-- p places of the chain from the source are there, and it goes on from node i with the label d: it arrives from there where it arrives at all, and its least residual is that of what is left, from `least` on.
pub record Walking (N : Network) (flow row chain₀ lowest far chain : List ℕ) (i d least p : ℕ) : Type 0 where
  pub long : length chain ≡ length chain₀
  pub lowest_long : length lowest ≡ N.n
  pub far_long : length far ≡ N.n
  pub noted : Noted (ways_in N flow) N.n row lowest far
  pub count : p + d ≡ at_node row N.s
  pub node : Node N.n i
  pub at : at_node row i ≡ d
  pub whole : take p chain ++ chain_from (ways_in N flow) row d i ≡ chain_from (ways_in N flow) row (at_node row N.s) N.s
  pub on : arrives (ways_in N flow) row d i ≡ arrives (ways_in N flow) row (at_node row N.s) N.s
  pub value : least_with N flow least i (chain_from (ways_in N flow) row d i) ≡ least_with N flow 4294967295 N.s (chain_from (ways_in N flow) row (at_node row N.s) N.s)

module _ (w : Ways) (row : List ℕ) (e i : ℕ) where
  -- A chain goes on where a place is found,
  arrives_on : next w row e i < w.places → arrives w row (suc e) i ≡ arrives w row e (other_end w i (next w row e i))
  unfolding arrives
  arrives_on found = rw (lt-ltb (next w row e i) w.places found)

  -- and arrives nowhere where none is.
  arrives_not : w.places ≤ next w row e i → arrives w row (suc e) i ≡ false
  unfolding arrives
  arrives_not stuck = rw (le-ltb (next w row e i) w.places stuck)

-- With label 0 it has arrived.
arrives_there : (w : Ways) (row : List ℕ) (d i : ℕ) → d ≡ 0 → arrives w row d i ≡ true
unfolding arrives
arrives_there w row d i z = ap (λ x. arrives w row x i) z

-- Of no arcs the least residual is the number that it is counted from.
least_none : (N : Network) (flow row : List ℕ) (d least i : ℕ) → d ≡ 0 → least ≡ least_with N flow least i (chain_from (ways_in N flow) row d i)
unfolding least_with chain_from
least_none N flow row d least i z = ap (λ x. least_with N flow least i (chain_from (ways_in N flow) row x i)) (sym z)

-- One place more of the least residual.
value_turn : (N : Network) (flow row : List ℕ) (d e least i k : ℕ) → d ≡ suc e → k ≡ next (ways_in N flow) row e i
    → least_with N flow (min least (residual_from N flow i k)) (other_end (ways_in N flow) i k) (chain_from (ways_in N flow) row e (other_end (ways_in N flow) i k))
    ≡ least_with N flow least i (chain_from (ways_in N flow) row d i)
unfolding least_with chain_from
value_turn N flow row d e least i k de ek =
    ap (λ x. least_with N flow (min least (residual_from N flow i k)) x (chain_from (ways_in N flow) row e (other_end (ways_in N flow) i k))) (far_picked N flow 0 i k)
    ∙ ap (λ x. least_with N flow least i (x ∷ chain_from (ways_in N flow) row e (other_end (ways_in N flow) i x))) ek
    ∙ ap (λ x. least_with N flow least i (chain_from (ways_in N flow) row x i)) (sym de)

module _ {N : Network} {flow : List ℕ} (ends : Ends N.n (ways_in N flow)) {row chain₀ lowest far chain : List ℕ} {i d least p k : ℕ}
    (so : Walking N flow row chain₀ lowest far chain i d least p) (more : 0 < d) (is : k ≡ next (ways_in N flow) row (d - 1) i) where
  -- One place more.
  pub walking_turn : at_node row N.s ≤ length chain₀ → k < N.m → {lowest' far' : List ℕ} {q r j : ℕ} → length lowest' ≡ length lowest → length far' ≡ length far
      → Noted (ways_in N flow) N.n row lowest' far' → q ≡ residual_from N flow i k → r ≡ min least q → j ≡ other_end (ways_in N flow) i k
      → Walking N flow row chain₀ lowest' far' (set chain p k) j (d - 1) r (p + 1)
  walking_turn fits here {lowest'} {far'} {q} {r} {j} long far_long noted eq er ej =
      subst (λ x. Walking N flow row chain₀ lowest' far' (set chain p k) x (d - 1) r (p + 1)) (sym ej)
      (subst (λ x. Walking N flow row chain₀ lowest' far' (set chain p k) (other_end (ways_in N flow) i k) (d - 1) x (p + 1)) (sym (er ∙ ap (min least) eq))
      (record {
        long = length-set chain p k ∙ so.long;
        lowest_long = long ∙ so.lowest_long;
        far_long = far_long ∙ so.far_long;
        noted = noted;
        count = omega (arith, so.count);
        node = (leads_within (ways_in N flow) N.n _ i _ ends there.0).1;
        at = there.1;
        whole =
            subst (λ x. take (p + 1) (set chain p x) ++ chain_from (ways_in N flow) row (d - 1) (other_end (ways_in N flow) i x) ≡ whole') (sym is)
            (walk_turn (ways_in N flow) row d (d - 1) i p chain whole' (omega (arith, so.count, so.long)) (omega arith) so.whole);
        on =
            ap (λ x. arrives (ways_in N flow) row (d - 1) (other_end (ways_in N flow) i x)) is
            ∙ sym (arrives_on (ways_in N flow) row (d - 1) i (subst (λ x. x < N.m) is here))
            ∙ ap (λ x. arrives (ways_in N flow) row x i) (sym before)
            ∙ so.on;
        value = value_turn N flow row d (d - 1) least i k before is ∙ so.value;
      }))
    where
      whole' : List ℕ
      whole' = chain_from (ways_in N flow) row (at_node row N.s) N.s

      there : Leads (ways_in N flow) k i (other_end (ways_in N flow) i k) × (at_node row (other_end (ways_in N flow) i k) ≡ d - 1)
      there =
          subst (λ x. Leads (ways_in N flow) x i (other_end (ways_in N flow) i x) × (at_node row (other_end (ways_in N flow) i x) ≡ d - 1)) (sym is)
          (found_leads (ways_in N flow) row (d - 1) i (subst (λ x. x < N.m) is here))

      before : d ≡ suc (d - 1)
      before = omega arith

  -- No place is found: the walk does not arrive.
  pub walking_stuck : N.m ≤ k → {lowest' far' : List ℕ} → Noted (ways_in N flow) N.n row lowest' far' → Walked N flow row lowest' far' chain 0
  walking_stuck past noted =
      record {
        told = rw nowhere;
        places = λ l. absurd (omega arith);
        noted = noted;
      }
    where
      before : d ≡ suc (d - 1)
      before = omega arith

      nowhere : arrives (ways_in N flow) row (at_node row N.s) N.s ≡ false
      nowhere = sym so.on ∙ ap (λ x. arrives (ways_in N flow) row x i) before ∙ arrives_not (ways_in N flow) row (d - 1) i (subst (λ x. N.m ≤ x) is past)

-- The least residual of a chain with arcs, counted from a number that is not below the first residual.
least_from : (N : Network) (flow : List ℕ) (high i k : ℕ) (ks : List ℕ) → residual_from N flow i k ≤ high → least_with N flow high i (k ∷ ks) ≡ least_residual N flow i (k ∷ ks)
unfolding least_with least_residual
least_from N flow high i k ks l = ap (λ x. least_with N flow x (far_from N i k) ks) (omega (arith, l))

-- A residual is at most the capacity.
residual_most : (N : Network) (flow : List ℕ) → Flow N (at_place flow) → (i k : ℕ) → k < N.m → residual_from N flow i k ≤ N.capacity k
residual_most N flow valid i k l = by (way_from N i k)
  where
    by : (b : Bool) → residual_over N (at_place flow) k b ≤ N.capacity k
    by true = omega arith
    by false = omega (arith, valid.high k l)

-- A chain from a node with a label above 0 has arcs, and its least residual may be counted from the largest number.
least_of : (N : Network) (flow row : List ℕ) → Flow N (at_place flow) → ((k : ℕ) → N.capacity k ≤ 4294967295) → (d i : ℕ) → 0 < d → arrives (ways_in N flow) row d i ≡ true
    → least_with N flow 4294967295 i (chain_from (ways_in N flow) row d i) ≡ least_residual N flow i (chain_from (ways_in N flow) row d i)
unfolding chain_from arrives
least_of N flow row valid small zero i l e = absurd (omega arith)
least_of N flow row valid small (suc d) i l e =
    let found = (both_true (ltb (next (ways_in N flow) row d i) N.m) (arrives (ways_in N flow) row d (other_end (ways_in N flow) i (next (ways_in N flow) row d i))) e).0 in
    let within = ltb-true (next (ways_in N flow) row d i) N.m found in
    least_from N flow 4294967295 i (next (ways_in N flow) row d i) _ (omega (arith, residual_most N flow valid i (next (ways_in N flow) row d i) within, small (next (ways_in N flow) row d i)))

-- At label 0 the walk has arrived,
pub walking_there : {N : Network} {flow row chain₀ lowest far chain : List ℕ} {i d least p : ℕ} → Walking N flow row chain₀ lowest far chain i d least p → d ≡ 0
    → arrives (ways_in N flow) row (at_node row N.s) N.s ≡ true
walking_there {N} {flow} {row} {chain₀} {lowest} {far} {chain} {i} {d} so z = sym so.on ∙ arrives_there (ways_in N flow) row d i z

-- and the whole chain is there.
pub walking_done : {N : Network} {flow row chain₀ lowest far chain : List ℕ} {i d least p : ℕ} → Walking N flow row chain₀ lowest far chain i d least p → d ≡ 0
    → Flow N (at_place flow) → ((k : ℕ) → N.capacity k ≤ 4294967295) → 0 < at_node row N.s → Walked N flow row lowest far chain least
walking_done {N} {flow} {row} {chain₀} {lowest} {far} {chain} {i} {d} {least} {p} so z valid small away =
    record {
      told = rw there (all ∙ so.value ∙ least_of N flow row valid small (at_node row N.s) N.s away there);
      places = λ _. ap (λ x. take x chain) (sym count) ∙ walk_done (ways_in N flow) row d i p chain (chain_from (ways_in N flow) row (at_node row N.s) N.s) z so.whole;
      noted = so.noted;
    }
  where
    count : p ≡ at_node row N.s
    count = omega (arith, so.count)

    there : arrives (ways_in N flow) row (at_node row N.s) N.s ≡ true
    there = walking_there so z

    all : least ≡ least_with N flow least i (chain_from (ways_in N flow) row d i)
    all = least_none N flow row d least i z

-- ---- `leave_by`

-- The lowest place is one of the places, or their number.
pub next_most : (w : Ways) (row : List ℕ) (d i : ℕ) → next w row d i ≤ w.places
unfolding next
next_most w row d i = ⊎_elim (λ p. omega (arith, p.0)) (λ e. omega arith) (lowest_is (leads_to w row d i) w.places).1

module _ {w : Ways} {n : ℕ} {row lowest far : List ℕ} (noted : Noted w n row lowest far) (d i k : ℕ) (hi : Node n i) (at : at_node row i ≡ d + 1) where
  -- A place noted that leads one nearer still is the lowest.
  pub noted_lowest : k ≡ get_or lowest (i - 1) 0 → k < w.places → leads_to w row d i k ≡ true → k ≡ next w row d i
  unfolding next
  noted_lowest is here leads =
      lowest_unique (leads_to w row d i) w.places k (
        (λ p less. noted.none_lower i d p hi (at ∙ add-one d) (omega (arith, node_at lowest i hi.0)) (omega (arith, node_at lowest i hi.0))),
        inl (here, leads),
      )

  module _ (long : length lowest ≡ n) where
    -- What is set there,
    set_here : at_node (set lowest (i - 1) k) i ≡ k
    set_here = set_there lowest i k (subst (λ l. Node l i) (sym long) hi)

    -- and what stays.
    set_away : (x : ℕ) → Node n x → (x ≡ i → ⊥) → at_node (set lowest (i - 1) k) x ≡ at_node lowest x
    set_away x hx ne = set_elsewhere lowest i k x hi.0 hx.0 ne

    -- That there is no place may be noted,
    pub nowhere_noted : w.places ≤ k → Noted w n row (set lowest (i - 1) k) far
    nowhere_noted past =
        record {
          none_lower = λ x e p hx ax here below.
              by_equal x i
              (λ q. absurd (omega (arith, here, ap (at_node (set lowest (i - 1) k)) q, set_here)))
              (λ ne. let same = set_away x hx ne in noted.none_lower x e p hx ax (omega (arith, here, same)) (omega (arith, below, same)));
          far_end = λ x hx here.
              by_equal x i
              (λ q. absurd (omega (arith, here, ap (at_node (set lowest (i - 1) k)) q, set_here)))
              (λ ne. let same = set_away x hx ne in noted.far_end x hx (omega (arith, here, same)) ∙ ap (other_end w x) (sym same));
        }

    -- and the lowest place with its far end.
    pub lowest_noted : length far ≡ n → k ≡ next w row d i → {j : ℕ} → j ≡ other_end w i k → Noted w n row (set lowest (i - 1) k) (set far (i - 1) j)
    unfolding next
    lowest_noted far_long is {j} ej =
        record {
          none_lower = λ x e p hx ax here below.
              by_equal x i
              (λ q.
              let level : e ≡ d = omega (arith, ap (at_node row) q) in
              ap (λ z. leads_to w row z x p) level ∙ ap (λ z. leads_to w row d z p) q
              ∙ (lowest_is (leads_to w row d i) w.places).0 p (omega (arith, below, ap (at_node (set lowest (i - 1) k)) q, set_here, is)))
              (λ ne. let same = set_away x hx ne in noted.none_lower x e p hx ax (omega (arith, here, same)) (omega (arith, below, same)));
          far_end = λ x hx here.
              by_equal x i
              (λ q.
              ap (at_node (set far (i - 1) j)) q ∙ set_there far i j (subst (λ l. Node l i) (sym far_long) hi) ∙ ej ∙ ap (other_end w i) (sym set_here)
              ∙ ap (λ z. other_end w z (at_node (set lowest (i - 1) k) z)) (sym q))
              (λ ne.
              let same = set_away x hx ne in
              set_elsewhere far i j x hi.0 hx.0 ne ∙ noted.far_end x hx (omega (arith, here, same)) ∙ ap (other_end w x) (sym same));
        }

-- ---- `measure_anew`

-- The distances are labels, and where no place is noted nothing is said.
pub measured_known : {n t : ℕ} {w : Ways} → Ends n w → Node n t → {dist lowest far : List ℕ} {l : ℕ} → dist ≡ distances w n t → lowest ≡ replicate l w.places → l ≡ n → Known w n t dist lowest far
measured_known {n} {t} {w} ends ht {dist} {lowest} {far} {l} right none long =
    record {
      labels = subst (Labels w n t) (sym right) (distances_right w n t ends ht).labels;
      noted = record {
        none_lower = λ i d p hi at here below. absurd (omega (arith, here, past i hi));
        far_end = λ i hi here. absurd (omega (arith, here, past i hi));
      };
    }
  where
    past : (i : ℕ) → Node n i → at_node lowest i ≡ w.places
    past i hi = ap (λ r. at_node r i) none ∙ node_at (replicate l w.places) i hi.0 ∙ get_or-replicate {A = ℕ} l (i - 1) w.places 0 (omega (arith, hi))
