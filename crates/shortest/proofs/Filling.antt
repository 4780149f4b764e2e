-- A chain of fewest arcs filled by its least residual: the flow stays within its bounds and conserved, and its value rises by that amount, at least 1.
use Prim.Native.Nat.{ℕ, zero, suc, ◌+◌, ◌≤◌, ◌<◌, min}
use mathlib.Core.Path.{◌≡◌, refl, sym, ap, subst, ◌∙◌}
use mathlib.Core.Logic.{◌⊎◌, inl, inr, ⊎_elim}
use mathlib.Core.Bool.{Bool, true, false}
use mathlib.Core.List.{List, [], ◌∷◌}
use native.Mathlib.Omega.{arith}
use lib.ListN.{length, get_or, drop, length-set}
use lib.Seq.{drop-set-lt}
use lib.Dec.{eqb, ltb}
use borrow.Author.Tests.{ltb-true, ltb-false, eqb-true, eq-eqb, ne_eqb}
use Rattle.rows.specs.Sum.{only}
use Rattle.rows.proofs.Functions.{put}
use Rattle.rows.specs.Row.{at_place, at_node}
use Rattle.rows.proofs.Sums.{by_test, by_equal, only_true, only_false, put_same, put_other}
use Rattle.rows.proofs.Rows.{place_set}
use Rattle.network.specs.Network.{Network, Flow, inflow, outflow, near_end, far_end, residual_over, Sound}
use Rattle.network.proofs.Notions.{residual_over_ext}
use Rattle.network.proofs.Push.{push_balance, moved_range}
use Rattle.shortest.specs.Augment.{moved, ways_in, way_from, residual_from, far_from, least_with, least_residual, residuals_of, moved_at, filled, Fits, at_sink, goes}
use Rattle.shortest.specs.Ways.{Leads, ahead, behind}
use Rattle.shortest.specs.Labels.{Labels}
use Rattle.shortest.specs.Chain.{Chain, arrived, step}
use Rattle.shortest.proofs.Chains.{chain_long, leads_place}

-- ---- an open arc, taken from node i

module _ (N : Network) (sound : Sound N) (flow : List ℕ) where
  -- The end that it is taken from is i.
  pub lead_near : {k i j : ℕ} → Leads (ways_in N flow) k i j → near_end N k (way_from N i k) ≡ i
  lead_near {k} {i} {j} (ahead l f t h) = rw (eq-eqb (N.tail k) i t) t
  lead_near {k} {i} {j} (behind l f h t) =
      by_test (eqb (N.tail k) i)
      (λ e. ap (near_end N k) e ∙ eqb-true (N.tail k) i e)
      (λ e. ap (near_end N k) e ∙ h)

  -- An arc taken from its head is not taken from its tail.
  behind_way : {k i : ℕ} → k < N.m → N.head k ≡ i → way_from N i k ≡ false
  behind_way {k} {i} l h = ne_eqb (N.tail k) i (λ e. sound.loopless k l (e ∙ sym h))

  -- Its far end is where it leads.
  pub lead_far : {k i j : ℕ} → Leads (ways_in N flow) k i j → far_from N i k ≡ j
  lead_far {k} {i} {j} (ahead l f t h) = ap (far_end N k) (eq-eqb (N.tail k) i t) ∙ h
  lead_far {k} {i} {j} (behind l f h t) = ap (far_end N k) (behind_way l h) ∙ t

  -- It has residual above 0.
  pub lead_residual : {k i j : ℕ} → Leads (ways_in N flow) k i j → 1 ≤ residual_from N flow i k
  lead_residual {k} {i} {j} (ahead l f t h) =
      omega (arith, ap (residual_over N (at_place flow) k) (eq-eqb (N.tail k) i t), ltb-true 0 (residual_over N (at_place flow) k true) f)
  lead_residual {k} {i} {j} (behind l f h t) =
      omega (arith, ap (residual_over N (at_place flow) k) (behind_way l h), ltb-true 0 (residual_over N (at_place flow) k false) f)

-- ---- the least residual

-- It is at most the number that it starts with.
pub least_at_most : (N : Network) (flow : List ℕ) (least i : ℕ) (ks : List ℕ) → least_with N flow least i ks ≤ least
unfolding least_with
least_at_most N flow least i [] = omega arith
least_at_most N flow least i (k ∷ ks) = omega (arith, least_at_most N flow (min least (residual_from N flow i k)) (far_from N i k) ks)

-- On a chain of open arcs it is at least 1.
pub least_positive : (N : Network) → Sound N → (flow : List ℕ) {t i : ℕ} {ks : List ℕ} (least : ℕ) → Chain (ways_in N flow) t i ks → 1 ≤ least → 1 ≤ least_with N flow least i ks
unfolding least_with
least_positive N sound flow least arrived h = h
least_positive N sound flow least (step {i} {j} {ks} k lead rest) h =
    subst (λ x. 1 ≤ least_with N flow (min least (residual_from N flow i k)) x ks) (sym (lead_far N sound flow lead))
    (least_positive N sound flow (min least (residual_from N flow i k)) rest (omega (arith, lead_residual N sound flow lead)))

-- The least residual of a chain that has arcs is at least 1.
pub least_above : (N : Network) → Sound N → (flow : List ℕ) {t i : ℕ} {ks : List ℕ} → Chain (ways_in N flow) t i ks → 1 ≤ length ks → 1 ≤ least_residual N flow i ks
unfolding least_residual
least_above N sound flow arrived h = absurd (omega arith)
least_above N sound flow (step {i} {j} {ks} k lead rest) h =
    least_positive N sound flow (residual_from N flow i k) (step k lead rest) (lead_residual N sound flow lead)

-- It is at most each of the residuals,
with_least : (N : Network) (flow : List ℕ) (least i : ℕ) (ks : List ℕ) (p : ℕ) → p < length ks → least_with N flow least i ks ≤ get_or (residuals_of N flow i ks) p 0
unfolding least_with residuals_of
with_least N flow least i [] p l = absurd (omega arith)
with_least N flow least i (k ∷ ks) zero l = omega (arith, least_at_most N flow (min least (residual_from N flow i k)) (far_from N i k) ks)
with_least N flow least i (k ∷ ks) (suc p) l = with_least N flow (min least (residual_from N flow i k)) (far_from N i k) ks p (omega arith)

-- The smaller of two numbers is one of them.
min_cases : (a b : ℕ) → (min a b ≡ a) ⊎ (min a b ≡ b)
min_cases a b = by_test (ltb a b) (λ e. let l = ltb-true a b e in inl (omega arith)) (λ e. let l = ltb-false a b e in inr (omega arith))

-- And the number that it starts with, or one of them.
with_one : (N : Network) (flow : List ℕ) (least i : ℕ) (ks : List ℕ)
    → (least_with N flow least i ks ≡ least) ⊎ ((p : ℕ) × (p < length ks) × (least_with N flow least i ks ≡ get_or (residuals_of N flow i ks) p 0))
unfolding least_with residuals_of
with_one N flow least i [] = inl refl
with_one N flow least i (k ∷ ks) =
    ⊎_elim
    (λ e. ⊎_elim (λ q. inl (e ∙ q)) (λ q. inr (0, omega arith, e ∙ q)) (min_cases least (residual_from N flow i k)))
    (λ (p, l, e). inr (suc p, omega arith, e))
    (with_one N flow (min least (residual_from N flow i k)) (far_from N i k) ks)

-- So the least residual is at most each of the chain's residuals,
pub least_at_most_each : (N : Network) (flow : List ℕ) (i : ℕ) (ks : List ℕ) (p : ℕ) → p < length ks → least_residual N flow i ks ≤ get_or (residuals_of N flow i ks) p 0
unfolding least_residual
least_at_most_each N flow i [] p l = absurd (omega arith)
least_at_most_each N flow i (k ∷ ks) p l = with_least N flow (residual_from N flow i k) i (k ∷ ks) p l

-- and it is one of them.
pub least_is_one : (N : Network) (flow : List ℕ) (i : ℕ) (ks : List ℕ) → 0 < length ks → (p : ℕ) × (p < length ks) × (least_residual N flow i ks ≡ get_or (residuals_of N flow i ks) p 0)
unfolding least_residual residuals_of
least_is_one N flow i [] l = absurd (omega arith)
least_is_one N flow i (k ∷ ks) l = ⊎_elim (λ e. (0, l, e)) (λ q. q) (with_one N flow (residual_from N flow i k) i (k ∷ ks))

-- ---- what filling does, where each arc has room in its turn

-- One arc's number stays between its minimum and capacity,
range_kept : (N : Network) (flow : ℕ → ℕ) (k : ℕ) (b : Bool) (d : ℕ) → d ≤ residual_over N flow k b → N.low k ≤ flow k → flow k ≤ N.capacity k
    → (N.low k ≤ moved b (flow k) d) × (moved b (flow k) d ≤ N.capacity k)
range_kept N flow k true = moved_range N flow k true
range_kept N flow k false = moved_range N flow k false

-- And d of inflow less outflow goes from its near end to its far end.
balance_kept : (N : Network) (flow : ℕ → ℕ) (k : ℕ) (b : Bool) (d : ℕ) → k < N.m → d ≤ residual_over N flow k b → (v : ℕ)
    → inflow N (put flow k (moved b (flow k) d)) v + outflow N flow v + only (eqb (near_end N k b) v) d
    ≡ inflow N flow v + outflow N (put flow k (moved b (flow k) d)) v + only (eqb (far_end N k b) v) d
balance_kept N flow k true = push_balance N flow k true
balance_kept N flow k false = push_balance N flow k false

-- Between minimum and capacity everywhere.
abbrev pub InRange : Network → List ℕ → Type 0
InRange N flow = (a : ℕ) → a < N.m → (N.low a ≤ at_place flow a) × (at_place flow a ≤ N.capacity a)

-- The row keeps its length.
pub filled_long : (N : Network) (d i : ℕ) (ks flow : List ℕ) → length (filled N d i ks flow) ≡ length flow
unfolding filled
filled_long N d i [] flow = refl
filled_long N d i (k ∷ ks) flow =
    filled_long N d (far_from N i k) ks (moved_at N d i k flow) ∙ length-set flow k (moved (way_from N i k) (at_place flow k) d)

module _ (N : Network) (d : ℕ) where
  -- The row with d moved over one arc, as a function.
  moved_put : (i k : ℕ) (flow : List ℕ) → N.m ≤ length flow → k < N.m
      → at_place (moved_at N d i k flow) ≡ put (at_place flow) k (moved (way_from N i k) (at_place flow k) d)
  moved_put i k flow long l = place_set flow k (moved (way_from N i k) (at_place flow k) d) (omega arith)

  -- Other arcs keep their flow.
  pub moved_other : (i k a : ℕ) (flow : List ℕ) → N.m ≤ length flow → k < N.m → (a ≡ k → ⊥) → at_place (moved_at N d i k flow) a ≡ at_place flow a
  moved_other i k a flow long l ne =
      ap (λ f. f a) (moved_put i k flow long l) ∙ put_other (at_place flow) k (moved (way_from N i k) (at_place flow k) d) a ne

  -- The row keeps its length.
  moved_long : (i k : ℕ) (flow : List ℕ) → N.m ≤ length flow → N.m ≤ length (moved_at N d i k flow)
  moved_long i k flow long = omega (arith, length-set flow k (moved (way_from N i k) (at_place flow k) d))

  -- Later places of the row stay.
  pub fits_later : {i : ℕ} {ks flow : List ℕ} → Fits N d i ks flow → drop N.m (filled N d i ks flow) ≡ drop N.m flow
  unfolding filled
  fits_later at_sink = refl
  fits_later (goes {i} {k} {ks} {flow} l from fits rest) =
      fits_later rest ∙ drop-set-lt N.m flow k (moved (way_from N i k) (at_place flow k) d) l

  -- Every arc stays between its minimum and capacity.
  pub fits_range : {i : ℕ} {ks flow : List ℕ} → Fits N d i ks flow → N.m ≤ length flow → InRange N flow → InRange N (filled N d i ks flow)
  unfolding filled
  fits_range at_sink long ok = ok
  fits_range (goes {i} {k} {ks} {flow} l from fits rest) long ok =
      fits_range rest (moved_long i k flow long)
      (λ a al.
      by_equal a k
      (λ e.
      omega (
        arith,
        ap (λ f. f a) (moved_put i k flow long l) ∙ put_same (at_place flow) k (moved (way_from N i k) (at_place flow k) d) a e,
        range_kept N (at_place flow) k (way_from N i k) d fits (ok k l).0 (ok k l).1,
        ap N.low e,
        ap N.capacity e,
      ))
      (λ ne. omega (arith, moved_other i k a flow long l ne, ok a al)))

  -- d of inflow less outflow goes from the chain's first node to the sink, at every node v.
  pub fits_balance : {i : ℕ} {ks flow : List ℕ} → Fits N d i ks flow → N.m ≤ length flow → (v : ℕ)
      → inflow N (at_place (filled N d i ks flow)) v + outflow N (at_place flow) v + only (eqb i v) d
      ≡ inflow N (at_place flow) v + outflow N (at_place (filled N d i ks flow)) v + only (eqb N.t v) d
  unfolding filled
  fits_balance at_sink long v = omega arith
  fits_balance (goes {i} {k} {ks} {flow} l from fits rest) long v =
      let here = balance_kept N (at_place flow) k (way_from N i k) d l fits v in
      let as_row = moved_put i k flow long l in
      let more = fits_balance rest (moved_long i k flow long) v in
      omega (
        arith,
        here,
        more,
        ap (λ f. inflow N f v) as_row,
        ap (λ f. outflow N f v) as_row,
        ap (λ x. only (eqb x v) d) from,
      )

  -- A flow stays a flow, with d more from source to sink.
  pub fits_flow : Sound N → {ks flow : List ℕ} → Fits N d N.s ks flow → N.m ≤ length flow → Flow N (at_place flow) → Flow N (at_place (filled N d N.s ks flow))
  fits_flow sound {ks} {flow} fits long f =
      record {
        low = λ a l. (range a l).0;
        high = λ a l. (range a l).1;
        kept = λ v inner.
            omega (
              arith,
              fits_balance fits long v,
              f.kept v inner,
              only_false (eqb N.s v) d (ne_eqb N.s v (λ e. inner.not_source (sym e))),
              only_false (eqb N.t v) d (ne_eqb N.t v (λ e. inner.not_sink (sym e))),
            );
      }
    where
      range : InRange N (filled N d N.s ks flow)
      range = fits_range fits long (λ a l. (f.low a l, f.high a l))

  -- The net flow out of the source rises by d.
  pub fits_value : Sound N → {ks flow : List ℕ} → Fits N d N.s ks flow → N.m ≤ length flow
      → outflow N (at_place (filled N d N.s ks flow)) N.s + inflow N (at_place flow) N.s
      ≡ outflow N (at_place flow) N.s + inflow N (at_place (filled N d N.s ks flow)) N.s + d
  fits_value sound fits long =
      omega (
        arith,
        fits_balance fits long N.s,
        only_true (eqb N.s N.s) d (eq-eqb N.s N.s refl),
        only_false (eqb N.t N.s) d (ne_eqb N.t N.s (λ e. sound.apart (sym e))),
      )

-- ---- a chain of fewest arcs fits

module _ (N : Network) (sound : Sound N) (n : ℕ) (flow₀ row : List ℕ) (low : Labels (ways_in N flow₀) n N.t row) (d : ℕ) where
  -- Arcs between nodes with labels of at most e have the flow that they had.
  abbrev pub Same : ℕ → List ℕ → Type 0
  Same e flow = (a : ℕ) → a < N.m → at_node row (N.tail a) ≤ e → at_node row (N.head a) ≤ e → at_place flow a ≡ at_place flow₀ a

  -- An arc that leads one nearer has a label of at most e + 1 at both ends, and not e at both.
  one_end : {k i j : ℕ} (e : ℕ) → Leads (ways_in N flow₀) k i j → at_node row i ≡ suc e → at_node row j ≡ e
      → (at_node row (N.tail k) ≤ suc e) × (at_node row (N.head k) ≤ suc e) × (at_node row (N.tail k) ≤ e → at_node row (N.head k) ≤ e → ⊥)
  one_end e (ahead l f t h) at far = let p = ap (at_node row) t in let q = ap (at_node row) h in (omega arith, omega arith, λ x y. omega arith)
  one_end e (behind l f h t) at far = let p = ap (at_node row) t in let q = ap (at_node row) h in (omega arith, omega arith, λ x y. omega arith)

  -- Each arc of a shortest chain has room for an amount in its turn, where it is at most the residuals of all.
  pub shortest_fits : {i : ℕ} {ls : List ℕ} → Chain (ways_in N flow₀) N.t i ls → at_node row i ≡ length ls → (flow : List ℕ) → N.m ≤ length flow → Same (length ls) flow
      → (least : ℕ) → d ≤ least_with N flow₀ least i ls → Fits N d i ls flow
  unfolding least_with
  shortest_fits arrived at flow long same least h = at_sink
  shortest_fits (step {i} {j} {ks} k lead rest) at flow long same least h =
      let far : at_node row j ≡ length ks = omega (arith, low.valid k i j lead, chain_long (ways_in N flow₀) n N.t row low rest) in
      let l = leads_place lead in
      let ends = one_end (length ks) lead at far in
      let now_residual = residual_over_ext N (at_place flow) (at_place flow₀) k (way_from N i k) (same k l ends.0 ends.1) in
      goes {flow = flow} l (lead_near N sound flow₀ lead)
      (omega (arith, now_residual, least_at_most N flow₀ (min least (residual_from N flow₀ i k)) (far_from N i k) ks))
      (subst (λ x. Fits N d x ks (moved_at N d i k flow)) (sym (lead_far N sound flow₀ lead))
      (shortest_fits rest far (moved_at N d i k flow)
      (omega (arith, length-set flow k (moved (way_from N i k) (at_place flow k) d)))
      (λ a al p q.
      moved_other N d i k a flow long l (λ e. ends.2 (subst (λ x. at_node row (N.tail x) ≤ length ks) e p) (subst (λ x. at_node row (N.head x) ≤ length ks) e q))
      ∙ same a al (omega arith) (omega arith))
      (min least (residual_from N flow₀ i k))
      (subst (λ x. d ≤ least_with N flow₀ (min least (residual_from N flow₀ i k)) x ks) (lead_far N sound flow₀ lead) h)))
