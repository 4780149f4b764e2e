-- Laws of the measuring by visits: what is noted, looked at, and done with; with no node left to visit the row holds the distances.
use Prim.Native.Nat.{ℕ, zero, suc, ◌+◌, ◌-◌, ◌≤◌, ◌<◌}
use mathlib.Core.Path.{◌≡◌, refl, sym, ap, subst, ◌∙◌}
use mathlib.Core.Logic.{◌⊎◌, inl, inr, ⊎_elim}
use mathlib.Core.Bool.{Bool, true, false, cond, true≢false}
use mathlib.Core.List.{List, [], ◌∷◌}
use native.Mathlib.Omega.{arith}
use native.Mathlib.Numerals.{add-one}
use lib.Dec.{eqb}
use lib.ListN.{length, get_or, set, replicate, length-set, length-replicate, get_or-replicate}
use lib.Seq.{get_or-set_same, get_or-set_other}
use borrow.Author.Tests.{eqb-true, eqb-false, eq-eqb, ne_eqb}
use Rattle.rows.specs.Row.{at_place, at_node, Node}
use Rattle.rows.proofs.Rows.{node_at}
use Rattle.rows.proofs.Sums.{by_test, by_equal}
use Rattle.shortest.specs.Ways.{Ways, Leads, ahead, behind, other_end}
use Rattle.shortest.specs.Distance.{distances}
use Rattle.measuring.specs.Visits.{ListOf, may_into, vacant, Front, front, given, give_of, look_to, Open}
use Rattle.shortest.proofs.Ends.{Ends, leads_within}
use Rattle.shortest.proofs.Laying.{Laid, set_there, set_elsewhere, start_laid, only_distances}

-- ---- how many numbers of a row are n

-- One that is n counts,
pub vacant_there : (n : ℕ) (row : List ℕ) (i : ℕ) → i < length row → get_or row i 0 ≡ n → 0 < vacant n row
unfolding vacant
vacant_there n [] i h e = absurd (omega arith)
vacant_there n (x ∷ row) zero h e = rw (eq-eqb x n e) (omega arith)
vacant_there n (x ∷ row) (suc i) h e = let more = vacant_there n row i (omega arith) e in omega arith

-- and with another number in its place there is one less.
vacant_set : (n d : ℕ) → (d ≡ n → ⊥) → (row : List ℕ) (i : ℕ) → i < length row → get_or row i 0 ≡ n → vacant n (set row i d) + 1 ≡ vacant n row
unfolding vacant
vacant_set n d ne [] i h e = absurd (omega arith)
vacant_set n d ne (x ∷ row) zero h e = rw (eq-eqb x n e, ne_eqb d n ne) (omega arith)
vacant_set n d ne (x ∷ row) (suc i) h e = let less = vacant_set n d ne row i (omega arith) e in omega arith

-- They are no more than the numbers.
vacant_most : (n : ℕ) (row : List ℕ) → vacant n row ≤ length row
unfolding vacant
vacant_most n [] = omega arith
vacant_most n (x ∷ row) = let rest = vacant_most n row in by_test (eqb x n) (λ e. rw e (omega arith)) (λ e. rw e (omega arith))

-- ---- `give`: the way is shut, the node has a distance already, or gets one and is noted now

-- The way is shut.
pub give_shut : (n d : ℕ) (may : Bool) (i : ℕ) (f : Front) → may ≡ false → f ≡ give_of n d may i f
unfolding give_of
give_shut n d may i f e = rw e

-- The node has a distance already.
pub give_again : (n d : ℕ) (may : Bool) (i : ℕ) (f : Front) → may ≡ true → (at_node f.dist i ≡ n → ⊥) → f ≡ give_of n d may i f
unfolding give_of
give_again n d may i f e has = rw (e, ne_eqb (at_node f.dist i) n has)

-- The node gets one and is noted.
pub give_new : (n d : ℕ) (may : Bool) (i : ℕ) (f : Front) → may ≡ true → at_node f.dist i ≡ n → given d i f ≡ give_of n d may i f
unfolding give_of
give_new n d may i f e none = rw (e, eq-eqb (at_node f.dist i) n none)

-- What holds of the front with the node noted, where it is, and of the front as it was, where it is not, holds of `give_of`.
give_cases : (P : Front → Type 0) (n d : ℕ) (may : Bool) (i : ℕ) (f : Front) → (may ≡ true → at_node f.dist i ≡ n → P (given d i f))
    → ((may ≡ true → at_node f.dist i ≡ n → ⊥) → P f) → P (give_of n d may i f)
unfolding give_of
give_cases P n d false i f noted not = not (λ e. absurd (true≢false (sym e)))
give_cases P n d true i f noted not = by (eqb (at_node f.dist i) n) refl
  where
    by : (b : Bool) → eqb (at_node f.dist i) n ≡ b → P (cond b (given d i f) f)
    by true e = noted refl (eqb-true (at_node f.dist i) n e)
    by false e = not (λ _. eqb-false (at_node f.dist i) n e)

-- From one front to a later one: rows as long as before, and room for more.
pub record Moved (n d : ℕ) (f g : Front) : Type 0 where
  pub long : length g.dist ≡ length f.dist
  pub todo_long : length g.todo ≡ length f.todo
  pub grows : f.count ≤ g.count
  pub more : Open n d g

-- Nothing done.
pub moved_none : {n d : ℕ} {f : Front} → Open n d f → Moved n d f f
moved_none more = record { long = refl; todo_long = refl; grows = omega arith; more = more }

-- One after the other.
moved_then : {n d : ℕ} {f g h : Front} → Moved n d f g → Moved n d g h → Moved n d f h
moved_then a b = record { long = b.long ∙ a.long; todo_long = b.todo_long ∙ a.todo_long; grows = omega (arith, a.grows, b.grows); more = b.more }

-- A node without a distance leaves room: the distance it gets is below n, and one less is without.
module _ {n d : ℕ} {f : Front} (more : Open n d f) (i : ℕ) (node : Node (length f.dist) i) (none : at_node f.dist i ≡ n) where
  -- It has none at its place.
  at_place_lem : get_or f.dist (i - 1) 0 ≡ n
  at_place_lem = sym (node_at f.dist i node.0) ∙ none

  -- There is a place behind those noted.
  pub given_place : f.count < n
  given_place = omega (arith, more.left, vacant_there n f.dist (i - 1) (omega (arith, node)) at_place_lem)

  -- One less is without.
  given_less : vacant n (set f.dist (i - 1) d) + 1 ≡ vacant n f.dist
  given_less = vacant_set n d (λ e. omega (arith, given_place, more.enough)) f.dist (i - 1) (omega (arith, node)) at_place_lem

  -- With it noted there is room as before.
  given_moved : Moved n d f (given d i f)
  given_moved =
      record {
        long = length-set f.dist (i - 1) d;
        todo_long = length-set f.todo f.count i;
        grows = omega arith;
        more =
            record {
              enough = omega (arith, more.enough);
              left = omega (arith, more.left, given_less);
              places = subst (λ x. n ≤ x) (sym (length-set f.todo f.count i)) more.places;
            };
      }

-- A node looked at.
give_moved : {n d : ℕ} {f : Front} → Open n d f → (may : Bool) (i : ℕ) → Node (length f.dist) i → Moved n d f (give_of n d may i f)
give_moved {n} {d} {f} more may i node = give_cases (Moved n d f) n d may i f (λ _ none. given_moved more i node none) (λ _. moved_none more)

-- ---- an arc into node j

module _ (w : Ways) (n : ℕ) (ends : Ends n w) (j k : ℕ) (below : k < w.places) where
  -- Its other end is a node.
  other_node : Node n (other_end w j k)
  other_node =
      by_test (eqb (w.tail_at k) j)
      (λ e. rw e (ends.head_within k below))
      (λ e. rw e (ends.tail_within k below))

  module _ (ends_at : (w.tail_at k ≡ j) ⊎ (w.head_at k ≡ j)) where
    -- Where it may be walked it leads to j,
    into_leads : may_into w j k ≡ true → Leads w k (other_end w j k) j
    into_leads e =
        by_equal (w.tail_at k) j
        (λ q. subst (λ x. Leads w k x j) (ap (λ b. cond b (w.head_at k) (w.tail_at k)) (sym (eq-eqb (w.tail_at k) j q)))
        (behind below (ap (λ b. cond b (w.back k) (w.fore k)) (sym (eq-eqb (w.tail_at k) j q)) ∙ e) refl q))
        (λ q. subst (λ x. Leads w k x j) (ap (λ b. cond b (w.head_at k) (w.tail_at k)) (sym (ne_eqb (w.tail_at k) j q)))
        (ahead below (ap (λ b. cond b (w.back k) (w.fore k)) (sym (ne_eqb (w.tail_at k) j q)) ∙ e) refl (⊎_elim (λ p. absurd (q p)) (λ p. p) ends_at)))

    -- and whoever walks it there is that other end, or j itself.
    into_only : {a : ℕ} → Leads w k a j → ((may_into w j k ≡ true) × (a ≡ other_end w j k)) ⊎ (a ≡ j)
    into_only {a} (ahead l f ta hj) =
        by_equal (w.tail_at k) j
        (λ q. inr (sym ta ∙ q))
        (λ q. inl (ap (λ b. cond b (w.back k) (w.fore k)) (ne_eqb (w.tail_at k) j q) ∙ f, sym ta ∙ ap (λ b. cond b (w.head_at k) (w.tail_at k)) (sym (ne_eqb (w.tail_at k) j q))))
    into_only {a} (behind l f ha tj) =
        inl (ap (λ b. cond b (w.back k) (w.fore k)) (eq-eqb (w.tail_at k) j tj) ∙ f, sym ha ∙ ap (λ b. cond b (w.head_at k) (w.tail_at k)) (sym (eq-eqb (w.tail_at k) j tj)))

-- One place more of a list, in the loop of `visit`.
pub look_turn : (w : Ways) (n d j : ℕ) → Ends n w → (l : List ℕ) (p : ℕ) {f g h : Front} → length f.dist ≡ n → at_place l p < w.places → Moved n d f g
    → g ≡ look_to w n d j l p f → h ≡ give_of n d (may_into w j (at_place l p)) (other_end w j (at_place l p)) g
    → (h ≡ look_to w n d j l (p + 1) f) × Moved n d f h
unfolding look_to
look_turn w n d j ends l p {f} {g} long below moved first second =
    let k = at_place l p in
    let node : Node (length g.dist) (other_end w j k) = subst (λ x. Node x (other_end w j k)) (sym (moved.long ∙ long)) (other_node w n ends j k below) in (
      rw (add-one p) (second ∙ ap (give_of n d (may_into w j k) (other_end w j k)) first),
      moved_then moved (subst (Moved n d g) (sym second) (give_moved moved.more (may_into w j k) (other_end w j k) node)),
    )

-- No place is looked at yet.
pub look_none : (w : Ways) (n d j : ℕ) (l : List ℕ) (f : Front) → f ≡ look_to w n d j l 0 f
unfolding look_to
look_none w n d j l f = refl

-- ---- nodes noted in the order of their distances

-- The distance of the node noted at p.
abbrev rank : Front → ℕ → ℕ
rank f p = at_node f.dist (at_place f.todo p)

-- Every arc into node j leaves a node that is at most one farther.
abbrev DoneWith : Ways → List ℕ → ℕ → Type 0
DoneWith w row j = (k i : ℕ) → Leads w k i j → at_node row i ≤ at_node row j + 1

-- The distances are right so far. The nodes that have one are noted, the nearer first, and none is more than one farther than the one noted at `at`; those before it are done with.
pub record Going (w : Ways) (n t at : ℕ) (f : Front) : Type 0 where
  pub long : length f.dist ≡ n
  pub at_most : (i : ℕ) → Node n i → at_node f.dist i ≤ n
  pub at_sink : at_node f.dist t ≡ 0
  pub only_sink : (i : ℕ) → Node n i → at_node f.dist i ≡ 0 → i ≡ t
  pub descends : (i e : ℕ) → Node n i → at_node f.dist i ≡ suc e → suc e < n → (k : ℕ) × (j : ℕ) × Leads w k i j × (at_node f.dist j ≡ e)
  pub left : vacant n f.dist + f.count ≤ n
  pub places : n ≤ length f.todo
  pub node : (p : ℕ) → p < f.count → Node n (at_place f.todo p)
  pub early : (p : ℕ) → p < f.count → rank f p ≤ p
  pub noted : (i : ℕ) → Node n i → at_node f.dist i < n → (p : ℕ) × (p < f.count) × (at_place f.todo p ≡ i)
  pub rises : (p q : ℕ) → p < q → q < f.count → rank f p ≤ rank f q
  pub near : (q : ℕ) → at < f.count → q < f.count → rank f q ≤ rank f at + 1
  pub done : (p : ℕ) → p < at → p < f.count → DoneWith w f.dist (at_place f.todo p)

module _ (w : Ways) (n t : ℕ) (ends : Ends n w) (ht : Node n t) where
  -- Nodes can be noted one farther than the one being visited.
  pub going_open : {at : ℕ} {f : Front} → at < f.count → Going w n t at f → {d : ℕ} → d ≡ rank f at + 1 → Open n d f
  going_open {at} here g level = record { enough = omega (arith, g.early at here); left = g.left; places = g.places }

  -- Node i is noted, over the arc at place k to the node being visited.
  module _ (at : ℕ) (f : Front) (here : at < f.count) (g : Going w n t at f) (d : ℕ) (level : d ≡ rank f at + 1) (k i : ℕ) (lead : Leads w k i (at_place f.todo at))
      (none : at_node f.dist i ≡ n) where
    -- Node i is a node,
    hi : Node n i
    hi = (leads_within w n k i (at_place f.todo at) ends lead).0

    -- and has a place in the row.
    hi_row : Node (length f.dist) i
    hi_row = subst (λ l. Node l i) (sym g.long) hi

    -- There is a place to note it.
    room : f.count < n
    room = given_place (going_open here g level) i hi_row none

    -- It is at distance d then,
    there : at_node (set f.dist (i - 1) d) i ≡ d
    there = set_there f.dist i d hi_row

    -- and every other node where it was.
    other : (x : ℕ) → Node n x → (x ≡ i → ⊥) → at_node (set f.dist (i - 1) d) x ≡ at_node f.dist x
    other x hx ne = set_elsewhere f.dist i d x hi.0 hx.0 ne

    -- A node that has a distance keeps it.
    keeps : (x : ℕ) → Node n x → at_node f.dist x < n → at_node (set f.dist (i - 1) d) x ≡ at_node f.dist x
    keeps x hx has = other x hx (λ e. omega (arith, has, none, ap (at_node f.dist) e))

    -- It is noted behind the others,
    noted_there : get_or (set f.todo f.count i) f.count 0 ≡ i
    noted_there = get_or-set_same f.todo f.count i 0 (omega (arith, room, g.places))

    -- and those stay.
    noted_other : (p : ℕ) → p < f.count → get_or (set f.todo f.count i) p 0 ≡ get_or f.todo p 0
    noted_other p l = get_or-set_other f.todo f.count p i 0 (omega arith)

    -- Each node noted before is at a distance below n,
    rank_small : (p : ℕ) → p < f.count → rank f p < n
    rank_small p l = omega (arith, g.early p l, room)

    -- and keeps it.
    rank_other : (p : ℕ) → p < f.count → rank (given d i f) p ≡ rank f p
    rank_other p l = ap (at_node (set f.dist (i - 1) d)) (noted_other p l) ∙ keeps (at_place f.todo p) (g.node p l) (rank_small p l)

    -- The last one noted is at distance d.
    rank_there : rank (given d i f) f.count ≡ d
    rank_there = ap (at_node (set f.dist (i - 1) d)) noted_there ∙ there

    -- What holds of the last one noted and of each from before holds of all.
    by_last : (P : ℕ → Type 0) → P f.count → ((p : ℕ) → p < f.count → P p) → (p : ℕ) → p < f.count + 1 → P p
    by_last P last old p l = by_equal p f.count (λ e. subst P (sym e) last) (λ ne. old p (omega arith))

    -- No distance grows.
    given_falls : (x : ℕ) → Node n x → at_node (set f.dist (i - 1) d) x ≤ at_node f.dist x
    given_falls x hx =
        by_equal x i
        (λ e. omega (arith, ap (at_node (set f.dist (i - 1) d)) e, there, ap (at_node f.dist) e, none, level, g.early at here, room))
        (λ ne. omega (arith, other x hx ne))

    -- With node i noted the distances are still right so far.
    given_going : Going w n t at (given d i f)
    given_going =
        record {
          long = length-set f.dist (i - 1) d ∙ g.long;
          at_most = λ x hx. omega (arith, given_falls x hx, g.at_most x hx);
          at_sink = keeps t ht (omega (arith, g.at_sink, ht)) ∙ g.at_sink;
          only_sink = λ x hx z.
              by_equal x i
              (λ e. absurd (omega (arith, ap (at_node (set f.dist (i - 1) d)) e, there, z, level)))
              (λ ne. g.only_sink x hx (sym (other x hx ne) ∙ z));
          descends = λ x e hx is l.
              by_equal x i
              (λ same.
              let below : rank f at ≡ e = omega (arith, ap (at_node (set f.dist (i - 1) d)) same, there, is, level) in
              (k, at_place f.todo at, subst (λ y. Leads w k y (at_place f.todo at)) (sym same) lead, keeps (at_place f.todo at) (g.node at here) (rank_small at here) ∙ below))
              (λ ne.
              let (k', j, lead', far) = g.descends x e hx (sym (other x hx ne) ∙ is) l in
              (k', j, lead', keeps j (leads_within w n k' x j ends lead').1 (omega (arith, far, l)) ∙ far));
          left = (given_moved (going_open here g level) i hi_row none).more.left;
          places = (given_moved (going_open here g level) i hi_row none).more.places;
          node = by_last (λ p. Node n (get_or (set f.todo f.count i) p 0)) (subst (Node n) (sym noted_there) hi) (λ p l. subst (Node n) (sym (noted_other p l)) (g.node p l));
          early = by_last (λ p. rank (given d i f) p ≤ p) (omega (arith, rank_there, level, g.early at here)) (λ p l. omega (arith, rank_other p l, g.early p l));
          noted = λ x hx has.
              by_equal x i
              (λ e. (f.count, omega arith, noted_there ∙ sym e))
              (λ ne. let (p, l, is) = g.noted x hx (omega (arith, other x hx ne, has)) in (p, omega arith, noted_other p l ∙ is));
          rises = λ p q less l.
              by_equal q f.count
              (λ e. omega (arith, rank_other p (omega arith), ap (rank (given d i f)) e, rank_there, level, g.near p here (omega arith)))
              (λ ne. omega (arith, rank_other p (omega arith), rank_other q (omega arith), g.rises p q less (omega arith)));
          near = λ q _.
              by_last (λ p. rank (given d i f) p ≤ rank (given d i f) at + 1)
              (omega (arith, rank_there, level, rank_other at here))
              (λ p l. omega (arith, rank_other p l, rank_other at here, g.near p here l)) q;
          done = λ p l _ k' x lead'.
              let below : p < f.count = omega arith in
              let old = subst (Leads w k' x) (noted_other p below) lead' in
              let hx = (leads_within w n k' x (at_place f.todo p) ends old).0 in
              omega (arith, rank_other p below, given_falls x hx, g.done p l below k' x old);
        }

  -- ---- a visit

  -- After the first p places of the list of node j, which is noted at `at` and being visited: what they lead from to j is at distance d at most, one more than j.
  record Looked (at j d : ℕ) (l : List ℕ) (p : ℕ) (h : Front) : Type 0 where
    going : Going w n t at h
    here : at < h.count
    same : at_place h.todo at ≡ j
    level : d ≡ rank h at + 1
    seen : (q : ℕ) → q < p → (i : ℕ) → Leads w (at_place l q) i j → at_node h.dist i ≤ d

  module _ (at j d : ℕ) (l : List ℕ) (is : ListOf w j l) where
    -- One place more.
    look_more : (p : ℕ) (h : Front) → p < length l → Looked at j d l p h → Looked at j d l (suc p) (give_of n d (may_into w j (at_place l p)) (other_end w j (at_place l p)) h)
    look_more p h b so = give_cases (Looked at j d l (suc p)) n d (may_into w j (at_place l p)) (other_end w j (at_place l p)) h fresh stale
      where
        k : ℕ
        k = at_place l p

        i : ℕ
        i = other_end w j (at_place l p)

        into : {x : ℕ} → Leads w (at_place l p) x j → ((may_into w j (at_place l p) ≡ true) × (x ≡ other_end w j (at_place l p))) ⊎ (x ≡ j)
        into = into_only w n ends j (at_place l p) (is.each p b) (is.touching p b)

        level_there : at_node h.dist j + 1 ≡ d
        level_there = ap (λ x. at_node h.dist x + 1) (sym so.same) ∙ sym so.level

        fresh : may_into w j (at_place l p) ≡ true → at_node h.dist (other_end w j (at_place l p)) ≡ n → Looked at j d l (suc p) (given d (other_end w j (at_place l p)) h)
        fresh e none =
            let lead = subst (Leads w k i) (sym so.same) (into_leads w n ends j k (is.each p b) (is.touching p b) e) in
            let falls = given_falls at h so.here so.going d so.level k i lead none in
            let stays = rank_other at h so.here so.going d so.level k i lead none at so.here in
            record {
              going = given_going at h so.here so.going d so.level k i lead none;
              here = omega (arith, so.here);
              same = noted_other at h so.here so.going d so.level k i lead none at so.here ∙ so.same;
              level = so.level ∙ ap (λ x. x + 1) (sym stays);
              seen = λ q less x lead'.
                  let hx = (leads_within w n (at_place l q) x j ends lead').0 in
                  by_equal q p
                  (λ z.
                  ⊎_elim
                  (λ new. omega (arith, ap (at_node (set h.dist (i - 1) d)) new.1, there at h so.here so.going d so.level k i lead none))
                  (λ own. omega (arith, falls x hx, ap (at_node h.dist) own, level_there))
                  (into (subst (λ y. Leads w (at_place l y) x j) z lead')))
                  (λ z. omega (arith, falls x hx, so.seen q (omega arith) x lead'));
            }

        stale : (may_into w j (at_place l p) ≡ true → at_node h.dist (other_end w j (at_place l p)) ≡ n → ⊥) → Looked at j d l (suc p) h
        stale not =
            record {
              going = so.going;
              here = so.here;
              same = so.same;
              level = so.level;
              seen = λ q less x lead.
                  let hx = (leads_within w n (at_place l q) x j ends lead).0 in
                  by_equal q p
                  (λ z.
                  ⊎_elim
                  (λ may.
                  let has : at_node h.dist x < n = has_one x hx (λ none. not may.0 (ap (at_node h.dist) (sym may.1) ∙ none)) in
                  let (y, inside, at_y) = so.going.noted x hx has in
                  omega (arith, ap (at_node h.dist) at_y, so.going.near y so.here inside, so.level))
                  (λ own. omega (arith, ap (at_node h.dist) own, level_there))
                  (into (subst (λ y. Leads w (at_place l y) x j) z lead)))
                  (λ z. so.seen q (omega arith) x lead);
            }
          where
            has_one : (x : ℕ) → Node n x → (at_node h.dist x ≡ n → ⊥) → at_node h.dist x < n
            has_one x hx ne = let most = so.going.at_most x hx in by_equal (at_node h.dist x) n (λ e. absurd (ne e)) (λ e. omega arith)

    -- The first p places of the list.
    looked_to : (f : Front) → Looked at j d l 0 f → (p : ℕ) → p ≤ length l → Looked at j d l p (look_to w n d j l p f)
    unfolding look_to
    looked_to f so zero b = so
    looked_to f so (suc p) b = look_more p (look_to w n d j l p f) b (looked_to f so p (omega arith))

    -- The whole list: the node is done with.
    visit_done : (f : Front) → Looked at j d l 0 f → Going w n t (at + 1) (look_to w n d j l (length l) f)
    visit_done f so =
        record {
          long = all.going.long;
          at_most = all.going.at_most;
          at_sink = all.going.at_sink;
          only_sink = all.going.only_sink;
          descends = all.going.descends;
          left = all.going.left;
          places = all.going.places;
          node = all.going.node;
          early = all.going.early;
          noted = all.going.noted;
          rises = all.going.rises;
          near = λ q here b. omega (arith, all.going.near q all.here b, all.going.rises at (at + 1) (omega arith) here);
          done = λ p less b.
              by_equal p at
              (λ e k i lead. subst (λ x. at_node after.dist i ≤ rank after x + 1) (sym e) (whole k i (subst (λ x. Leads w k i (at_place after.todo x)) e lead)))
              (λ ne. all.going.done p (omega arith) b);
        }
      where
        after : Front
        after = look_to w n d j l (length l) f

        all : Looked at j d l (length l) (look_to w n d j l (length l) f)
        all = looked_to f so (length l) (omega arith)

        place : {k a b : ℕ} → Leads w k a b → k < w.places
        place (ahead b f x y) = b
        place (behind b f x y) = b

        touch : {k a : ℕ} → Leads w k a j → (w.tail_at k ≡ j) ⊎ (w.head_at k ≡ j)
        touch (ahead b f x y) = inr y
        touch (behind b f x y) = inl y

        whole : (k i : ℕ) → Leads w k i (at_place (look_to w n d j l (length l) f).todo at) → at_node (look_to w n d j l (length l) f).dist i ≤ rank (look_to w n d j l (length l) f) at + 1
        whole k i lead =
            let own : Leads w k i j = subst (Leads w k i) all.same lead in
            let (q, inside, is_k) = is.all k (place own) (touch own) in
            omega (arith, all.seen q inside i (subst (λ x. Leads w x i j) (sym is_k) own), all.level)

  -- ---- the loop of `measure`

  -- Before any visit.
  pub going_start : {row : List ℕ} (todo : List ℕ) → row ≡ replicate n n → n ≤ length todo → Going w n t 0 (front (set row (t - 1) 0) (set todo 0 t) 1)
  going_start {row} todo cleared places =
      subst (λ r. Going w n t 0 (front (set r (t - 1) 0) (set todo 0 t) 1)) (sym cleared)
      (record {
        long = so.long;
        at_most = λ i hi. ⊎_elim (λ z. omega arith) (λ e. omega arith) (so.range i hi);
        at_sink = so.at_sink;
        only_sink = so.only_sink;
        descends = so.descends;
        left =
            omega (
              arith,
              vacant_most n (replicate n n),
              length-replicate n n,
              vacant_set n 0 (λ e. omega (arith, ht)) (replicate n n) (t - 1) (omega (arith, ht, length-replicate n n)) (get_or-replicate n (t - 1) n 0 (omega (arith, ht))),
            );
        places = subst (λ x. n ≤ x) (sym (length-set todo 0 t)) places;
        node = λ p l. subst (Node n) (sym (first p l)) ht;
        early = λ p l. omega (arith, ap (at_node (set (replicate n n) (t - 1) 0)) (first p l), so.at_sink);
        noted = λ i hi has. (0, omega arith, first 0 (omega arith) ∙ sym (⊎_elim (λ z. so.only_sink i hi (omega arith)) (λ e. absurd (omega arith)) (so.range i hi)));
        rises = λ p q less l. absurd (omega arith);
        near = λ q _ l. omega (arith, ap (at_node (set (replicate n n) (t - 1) 0)) (first q l), so.at_sink);
        done = λ p less. absurd (omega arith);
      })
    where
      so : Laid w n t 0 (set (replicate n n) (t - 1) 0)
      so = start_laid w n t ht

      first : (p : ℕ) → p < 1 → get_or (set todo 0 t) p 0 ≡ t
      first p l = let z : p ≡ 0 = omega arith in ap (λ q. get_or (set todo 0 t) q 0) z ∙ get_or-set_same todo 0 t 0 (omega (arith, ht))

  -- A visit more.
  pub visit_turn : {at : ℕ} {f : Front} → at < f.count → Going w n t at f → {d : ℕ} → d ≡ rank f at + 1 → {l : List ℕ} → ListOf w (at_place f.todo at) l
      → {h : Front} → h ≡ look_to w n d (at_place f.todo at) l (length l) f → Going w n t (at + 1) h
  visit_turn {at} {f} here g {d} level {l} is e =
      subst (Going w n t (at + 1)) (sym e)
      (visit_done at (at_place f.todo at) d l is f
      (record { going = g; here = here; same = refl; level = level; seen = λ q less. absurd (omega arith) }))

  -- With no node left to visit the row holds the distances.
  pub measured : {at : ℕ} {f : Front} → f.count ≤ at → Going w n t at f → f.dist ≡ distances w n t
  measured {at} {f} all g =
      only_distances w n t ends ht f.dist
      (record {
        labels = record {
          long = g.long;
          at_most = g.at_most;
          at_sink = g.at_sink;
          only_sink = g.only_sink;
          valid = λ k i j lead.
              let (hi, hj) = leads_within w n k i j ends lead in
              let most = g.at_most i hi in
              by_equal (at_node f.dist j) n
              (λ e. omega arith)
              (λ ne.
              let (p, b, is) = g.noted j hj (below j hj ne) in
              omega (arith, ap (at_node f.dist) is, g.done p (omega arith) b k i (subst (Leads w k i) (sym is) lead)));
        };
        descends = g.descends;
      })
    where
      below : (j : ℕ) → Node n j → (at_node f.dist j ≡ n → ⊥) → at_node f.dist j < n
      below j hj ne = let most = g.at_most j hj in by_equal (at_node f.dist j) n (λ e. absurd (ne e)) (λ e. omega arith)
