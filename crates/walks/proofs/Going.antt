-- Laws of the code's walk: a turn of its loop is a step of the definition's walk.
use Prim.Native.Nat.{ℕ, zero, suc, ◌+◌, ◌-◌, ◌≤◌, ◌<◌}
use native.Mathlib.Numerals.{add-one}
use native.Mathlib.Omega.{arith}
use mathlib.Core.Path.{◌≡◌, refl, ap, sym, subst, ◌∙◌}
use mathlib.Core.List.{List, [], ◌∷◌, ◌++◌}
use borrow.Author.Tests.{lt-ltb, le-ltb, eq-eqb, ne_eqb}
use lib.ListN.{length, get_or, set, take, drop, length-set, length-drop, length-append, get_or-append}
use lib.Seq.{take-suc-set, take-nil, length-take-le, get_or-drop, get_or_at}
use Rattle.rows.specs.Row.{Node, at_node, part}
use Rattle.rows.proofs.Functions.{put}
use Rattle.rows.proofs.Rows.{node_set}
use Rattle.rows.proofs.Sums.{by_equal, put_same, put_other}
use Rattle.table.specs.Accepted.{ArcEnds}
use Rattle.arcs.specs.Residual.{Places}
use Rattle.pieces.specs.Chains.{Found, found, onward, standing, arrive, walk}
use Rattle.pieces.proofs.Lowest.{cond_true, cond_false, onward_leads, standing_none}
use Rattle.walks.specs.Rows.{Noted, Went}

-- One number more of a row.
take_more : (row : List ℕ) (count k : ℕ) → count < length row → take (count + 1) (set row count k) ≡ take count row ++ (k ∷ [])
take_more row count k l = rw (add-one, take-suc-set row count k l)

-- One place more.
places_more : (m : ℕ) (ws : List ℕ) (k : ℕ) → Places m ws → k < m → Places m (ws ++ (k ∷ []))
places_more m [] k all l zero b = l
places_more m [] k all l (suc q) b = absurd (omega arith)
places_more m (w ∷ ws) k all l zero b = all 0 (omega arith)
places_more m (w ∷ ws) k all l (suc q) b = places_more m ws k (λ p h. all (suc p) (omega arith)) l q (omega arith)

-- Dropping from the front of a row is the part of the row.
part_drop : (from end : ℕ) (row : List ℕ) → part from end row ≡ drop from (take end row)
part_drop zero end row =
    let same : end - 0 ≡ end = omega arith in
    ap (λ x. take x row) same
part_drop (suc from) zero row =
    let none : zero - suc from ≡ zero = omega arith in
    ap (λ x. take x (drop (suc from) row)) none
part_drop (suc from) (suc end) [] = take-nil (suc end - suc from)
part_drop (suc from) (suc end) (x ∷ row) =
    let same : suc end - suc from ≡ end - from = omega arith in
    ap (λ y. take y (drop from row)) same ∙ part_drop from end row

-- The part of places is places.
places_part : (m from end : ℕ) (row : List ℕ) → from ≤ end → end ≤ length row → Places m (take end row) → Places m (part from end row)
places_part m from end row o l all = subst (Places m) (sym (part_drop from end row)) dropped
  where
    dropped : Places m (drop from (take end row))
    dropped q b =
        subst (λ (x : ℕ). x < m) (sym (get_or-drop from (take end row) q 0))
        (all (from + q) (omega (arith, length-drop from (take end row), length-take-le end row l)))

-- None of these places leaves node i.
abbrev NewTo : List ℕ → List ℕ → ℕ → Type 0
NewTo tails ws i = (q : ℕ) → q < length ws → get_or tails (get_or ws q 0) 0 ≡ i → ⊥

-- One place more, out of a node that was not left yet, is noted.
noted_more : (tails ws turns : List ℕ) (i k count : ℕ) → Noted tails ws turns → NewTo tails ws i → get_or tails k 0 ≡ i → Node (length turns) i → length ws ≡ count
    → Noted tails (ws ++ (k ∷ [])) (set turns (i - 1) count)
noted_more tails ws turns i k count noted new out node long q l =
    by_equal q (length ws)
    (λ e.
    ap (λ x. at_node (set turns (i - 1) count) (get_or tails x 0)) (get_or_at ws k [] 0 q (sym e))
    ∙ stored (get_or tails k 0) ∙ put_same (at_node turns) i count (get_or tails k 0) out ∙ sym (e ∙ long))
    (λ e.
    let before : q < length ws = omega (arith, length-append ws (k ∷ [])) in
    ap (λ x. at_node (set turns (i - 1) count) (get_or tails x 0)) (get_or-append ws (k ∷ []) 0 q before)
    ∙ stored (get_or tails (get_or ws q 0) 0) ∙ put_other (at_node turns) i count (get_or tails (get_or ws q 0) 0) (new q before) ∙ noted q before)
  where
    stored : (j : ℕ) → at_node (set turns (i - 1) count) j ≡ put (at_node turns) i count j
    stored j = ap (λ f. f j) (node_set turns i count node)

-- No places walked: neither a chain nor a ring.
went_none : (m : ℕ) (f : Found) (walked : List ℕ) → f ≡ found 0 [] → Went m f walked 0 0 0
went_none m f walked e =
    record {
      kind_is = ap (λ x. x.kind) (sym e);
      places_are = ap (λ x. x.places) (sym e);
      in_order = omega arith;
      fits = omega arith;
      inside = λ q b. absurd (omega arith);
    }

-- A part of the places walked.
went_part : (m : ℕ) (f : Found) (walked : List ℕ) (kind from end : ℕ) → f ≡ found kind (drop from (take end walked)) → from ≤ end → end ≤ length walked
    → Places m (take end walked) → Went m f walked kind from end
went_part m f walked kind from end e o l all =
    record {
      kind_is = ap (λ x. x.kind) (sym e);
      places_are = part_drop from end walked ∙ ap (λ x. x.places) (sym e);
      in_order = o;
      fits = l;
      inside = places_part m from end walked o l all;
    }

module _ (tails heads left : List ℕ) (sink nodes : ℕ) where
  -- The rows of a walk that came to node i with `count` places behind it.
  pub record Behind (walked turns : List ℕ) (i count : ℕ) : Type 0 where
    pub within : count ≤ nodes
    pub room : nodes ≤ length walked
    pub turns_long : nodes ≤ length turns
    pub node : Node nodes i
    pub inside : Places (length tails) (take count walked)
    pub noted : Noted tails (take count walked) turns

  -- The walk is at node i, which it has not left yet, and what it finds from there on is f.
  pub record Under (f : Found) (walked turns : List ℕ) (i count : ℕ) : Type 0 where
    pub rows : Behind walked turns i count
    pub new : NewTo tails (take count walked) i
    pub rest : f ≡ walk tails heads sink left (nodes - count) (take count walked) i

  -- The walk came to node j.
  pub record Came (f : Found) (walked turns : List ℕ) (j count : ℕ) : Type 0 where
    pub rows : Behind walked turns j count
    pub rest : f ≡ arrive tails sink (take count walked) j (walk tails heads sink left (nodes - count) (take count walked) j)

  pub under_starts : (walked turns : List ℕ) (start : ℕ) → nodes ≤ length walked → nodes ≤ length turns → Node nodes start
      → Under (walk tails heads sink left nodes [] start) walked turns start 0
  under_starts walked turns start room long node =
      let all : nodes ≡ nodes - 0 = omega arith in
      record {
        rows =
            record {
              within = omega arith;
              room = room;
              turns_long = long;
              node = node;
              inside = λ q b. absurd (omega arith);
              noted = λ q b. absurd (omega arith);
            };
        new = λ q b. absurd (omega arith);
        rest = ap (λ steps. walk tails heads sink left steps [] start) all;
      }

  -- No step is left.
  walk_out : (steps : ℕ) (ws : List ℕ) (i : ℕ) → steps ≤ 0 → walk tails heads sink left steps ws i ≡ found 0 []
  unfolding walk
  walk_out zero ws i l = refl
  walk_out (suc steps) ws i l = absurd (omega arith)

  -- Nothing leaves the node.
  walk_stuck : (steps : ℕ) (ws : List ℕ) (i : ℕ) → length tails ≤ onward tails left i → walk tails heads sink left steps ws i ≡ found 0 []
  unfolding walk
  walk_stuck zero ws i l = refl
  walk_stuck (suc steps) ws i l = cond_false _ _ _ (le-ltb _ _ l)

  -- One place more.
  walk_step : (steps less : ℕ) (ws : List ℕ) (i k : ℕ) → steps ≡ less + 1 → k ≡ onward tails left i → k < length tails
      → walk tails heads sink left steps ws i
      ≡ arrive tails sink (ws ++ (k ∷ [])) (get_or heads k 0) (walk tails heads sink left less (ws ++ (k ∷ [])) (get_or heads k 0))
  unfolding walk
  walk_step zero less ws i k b e l = absurd (omega arith)
  walk_step (suc steps) less ws i k b e l =
      let same : steps ≡ less = omega arith in
      let inside : onward tails left i < length tails = omega arith in
      cond_true _ _ _ (lt-ltb _ _ inside)
      ∙ ap (λ p. arrive tails sink (ws ++ (p ∷ [])) (get_or heads p 0) (walk tails heads sink left steps (ws ++ (p ∷ [])) (get_or heads p 0))) (sym e)
      ∙ ap (λ x. arrive tails sink (ws ++ (k ∷ [])) (get_or heads k 0) (walk tails heads sink left x (ws ++ (k ∷ [])) (get_or heads k 0))) same

  module _ (f : Found) (walked turns : List ℕ) (i count : ℕ) (under : Under f walked turns i count) where
    pub under_out : nodes ≤ count → Went (length tails) f walked 0 0 0
    under_out l = went_none _ f walked (under.rest ∙ walk_out (nodes - count) (take count walked) i (omega arith))

    pub under_stuck : (k : ℕ) → k ≡ onward tails left i → length tails ≤ k → Went (length tails) f walked 0 0 0
    under_stuck k e l =
        let none : length tails ≤ onward tails left i = omega arith in
        went_none _ f walked (under.rest ∙ walk_stuck (nodes - count) (take count walked) i none)

    -- The place is stored and noted, and the walk comes to its head.
    pub under_came : ArcEnds nodes tails heads → count < nodes → (k : ℕ) → k ≡ onward tails left i → k < length tails
        → (after : List ℕ) → after ≡ set turns (i - 1) count → Came f (set walked count k) after (get_or heads k 0) (count + 1)
    under_came ends l k e b after same =
        let rows = under.rows in
        let more = take_more walked count k (omega (arith, rows.room)) in
        let inside : onward tails left i < length tails = omega arith in
        let out : get_or tails k 0 ≡ i = ap (λ x. get_or tails x 0) e ∙ (onward_leads tails left i inside).0 in
        record {
          rows =
              record {
                within = omega arith;
                room = omega (arith, length-set walked count k, rows.room);
                turns_long = omega (arith, ap length same, length-set turns (i - 1) count, rows.turns_long);
                node = ends.head_node k b;
                inside = subst (Places (length tails)) (sym more) (places_more (length tails) (take count walked) k rows.inside b);
                noted =
                    subst (λ (ws : List ℕ). Noted tails ws after) (sym more)
                    (subst (Noted tails (take count walked ++ (k ∷ []))) (sym same)
                    (noted_more tails (take count walked) turns i k count rows.noted under.new out
                    (omega (arith, rows.node, rows.turns_long)) (length-take-le count walked (omega (arith, rows.room)))));
              };
          rest =
              under.rest ∙ walk_step (nodes - count) (nodes - (count + 1)) (take count walked) i k (omega arith) e b
              ∙ ap (λ ws. arrive tails sink ws (get_or heads k 0) (walk tails heads sink left (nodes - (count + 1)) ws (get_or heads k 0))) (sym more);
        }

  module _ (f : Found) (walked turns : List ℕ) (j count : ℕ) (came : Came f walked turns j count) where
    long : length (take count walked) ≡ count
    long = length-take-le count walked (omega (arith, came.rows.within, came.rows.room))

    -- To the sink: a chain.
    pub came_sink : j ≡ sink → Went (length tails) f walked 1 0 count
    unfolding arrive
    came_sink e =
        went_part _ f walked 1 0 count (came.rest ∙ cond_true _ _ _ (eq-eqb j sink e)) (omega arith)
        (omega (arith, came.rows.within, came.rows.room)) came.rows.inside

    -- To a node already on the walk: a ring.
    pub came_ring : (j ≡ sink → ⊥) → (r : ℕ) → r ≡ standing tails (take count walked) j → r < length (take count walked) → Went (length tails) f walked 2 r count
    unfolding arrive
    came_ring ne r e l =
        let inside : standing tails (take count walked) j < length (take count walked) = omega arith in
        went_part _ f walked 2 r count
        (came.rest ∙ cond_false _ _ _ (ne_eqb j sink ne) ∙ cond_true _ _ _ (lt-ltb _ _ inside)
        ∙ ap (λ x. found 2 (drop x (take count walked))) (sym e))
        (omega (arith, long)) (omega (arith, came.rows.within, came.rows.room)) came.rows.inside

    -- To a new node: the walk goes on.
    pub came_on : (j ≡ sink → ⊥) → standing tails (take count walked) j ≡ length (take count walked) → Under f walked turns j count
    unfolding arrive
    came_on ne e =
        let none : length (take count walked) ≤ standing tails (take count walked) j = omega arith in
        record {
          rows = came.rows;
          new = standing_none tails (take count walked) j none;
          rest = came.rest ∙ cond_false _ _ _ (ne_eqb j sink ne) ∙ cond_false _ _ _ (le-ltb _ _ none);
        }
