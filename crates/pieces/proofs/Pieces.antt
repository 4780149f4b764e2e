-- The pieces of a flow: each empties a place and leaves a flow, so that they are the whole of it.
use Prim.Native.Nat.{ℕ, zero, suc, ◌+◌, ◌*◌, ◌≤◌, ◌<◌}
use mathlib.Core.Path.{◌≡◌, refl, sym, subst, ◌∙◌}
use mathlib.Core.Logic.{inl, inr, ⊎_elim}
use mathlib.Core.List.{List, [], ◌∷◌}
use native.Mathlib.Omega.{arith}
use borrow.Author.Tests.{ltb-true, ltb-false, lt-ltb, le-ltb, eq-eqb, ne_eqb}
use lib.ListN.{length, get_or, length-append}
use lib.Dec.{eqb, ltb}
use Rattle.rows.specs.Row.{at_place}
use Rattle.rows.specs.Sum.{sum, only}
use Rattle.rows.proofs.Sums.{by_test, only_true, only_false, only_le, only_mono, sum_term, sum_mono, sum_rise, sum_bound, sum_zero}
use Rattle.network.specs.Network.{Network, Flow, Value, inflow, outflow, Sound}
use Rattle.pieces.proofs.Silent.{silent_outflow, sink_gets}
use Rattle.pieces.specs.Chains.{Found, Piece, remaining, onward, start_at, walk, found_in, piece_of, next, without, pieces, numbers}
use Rattle.pieces.specs.Meaning.{Links, Proper, AllProper, Whole, adds, brings, carried, in_chains, Silent}
use Rattle.pieces.proofs.Notions.{AtLeast, FlowLeft, Drawn}
use Rattle.pieces.proofs.Lowest.{by_cond, onward_none, remaining_none}
use Rattle.pieces.proofs.Walks.{full_at, simple_short}
use Rattle.pieces.proofs.Taking.{least_on, away_length, away_net, away_place, brings_at}
use Rattle.pieces.proofs.Finding.{Walked, walk_finds, starts_well, chain_starts}

-- How many places have flow left.
pub filled : Network → List ℕ → ℕ
filled N left = sum N.m (λ k. only (ltb 0 (get_or left k 0)) 1)

-- A piece of a flow left: it is listed as it should be, each of its places has its amount, and one has no more.
pub record PieceOf (N : Network) (left : List ℕ) (p : Piece) : Type 0 where
  pub proper : Proper N p
  pub each : AtLeast p.amount left p.places
  pub emptied : (q : ℕ) × (q < length p.places) × (get_or left (get_or p.places q 0) 0 ≡ p.amount)

-- A piece goes over places of the network.
links_place : (N : Network) (ks : List ℕ) (a b q : ℕ) → Links N ks a b → q < length ks → get_or ks q 0 < N.m
links_place N [] a b q links l = absurd (omega arith)
links_place N (k ∷ ks) a b zero links l = links.0
links_place N (k ∷ ks) a b (suc q) links l = links_place N ks (N.head k) b q links.2 (omega arith)

module _ (N : Network) (left : List ℕ) (p : Piece) (is : PieceOf N left p) (room : N.m ≤ length left) where
  -- It leads from some node to some node.
  pub ends_of : (a : ℕ) × (b : ℕ) × Links N p.places a b
  ends_of = ⊎_elim (λ chain. (N.s, N.t, chain.1)) (λ ring. (ring.1.0, ring.1.0, ring.1.1)) is.proper.shape

  -- What each place has is what it has without the piece, and what the piece brings.
  pub without_place : (k : ℕ) → get_or left k 0 ≡ get_or (without p left) k 0 + brings p.amount p.places k
  unfolding without
  without_place k =
      away_place N p.amount p.places left ends_of.0 ends_of.1 ends_of.2 is.proper.simple is.each room k

  -- A piece empties at least one place.
  pub fewer : filled N (without p left) + 1 ≤ filled N left
  unfolding filled
  fewer =
      let k = get_or p.places is.emptied.0 0 in
      sum_rise N.m (λ j. only (ltb 0 (get_or (without p left) j 0)) 1) (λ j. only (ltb 0 (get_or left j 0)) 1) k 1
      (λ j _. no_more j)
      (links_place N p.places ends_of.0 ends_of.1 is.emptied.0 ends_of.2 is.emptied.1)
      (omega (
        arith,
        only_false (ltb 0 (get_or (without p left) k 0)) 1 (le-ltb 0 (get_or (without p left) k 0) gone),
        only_true (ltb 0 (get_or left k 0)) 1 (lt-ltb 0 (get_or left k 0) (omega (arith, is.proper.carries, is.emptied.2))),
      ))
    where
      no_more : (j : ℕ) → only (ltb 0 (get_or (without p left) j 0)) 1 ≤ only (ltb 0 (get_or left j 0)) 1
      no_more j =
          by_test (ltb 0 (get_or left j 0))
          (λ e. omega (arith, only_le (ltb 0 (get_or (without p left) j 0)) 1, only_true (ltb 0 (get_or left j 0)) 1 e))
          (λ e.
          omega (
            arith,
            only_false (ltb 0 (get_or (without p left) j 0)) 1
                (le-ltb 0 (get_or (without p left) j 0) (omega (arith, without_place j, ltb-false 0 (get_or left j 0) e))),
          ))

      gone : get_or (without p left) (get_or p.places is.emptied.0 0) 0 ≤ 0
      gone =
          omega (
            arith,
            without_place (get_or p.places is.emptied.0 0),
            brings_at p.amount p.places is.emptied.0 is.emptied.1,
            is.emptied.2,
          )

  -- No node's outflow rises.
  outflow_less : (i : ℕ) → outflow N (at_place (without p left)) i ≤ outflow N (at_place left) i
  unfolding outflow
  outflow_less i =
      sum_mono N.m _ _ (λ k _. only_mono (eqb (N.tail k) i) _ _ (omega (arith, without_place k)))

  -- The net flow out of each node, along a piece from a to b.
  without_net : (a b : ℕ) → Links N p.places a b → (i : ℕ)
      → outflow N (at_place left) i + inflow N (at_place (without p left)) i + only (eqb b i) p.amount
      ≡ inflow N (at_place left) i + outflow N (at_place (without p left)) i + only (eqb a i) p.amount
  unfolding without
  without_net a b links i =
      away_net N p.amount p.places left a b links is.proper.simple is.each room i

  without_length : length (without p left) ≡ length left
  unfolding without
  without_length = away_length p.amount p.places left

  -- Without a piece a flow is left still, and a chain lowers its value by its amount.
  pub without_flow : Sound N → (v : ℕ) → FlowLeft N left v → (w : ℕ) × FlowLeft N (without p left) w × (v ≡ adds p + w)
  without_flow sound v flow = ⊎_elim chain ring is.proper.shape
    where
      here : (i : ℕ) → only (eqb i i) p.amount ≡ p.amount
      here i = only_true (eqb i i) p.amount (eq-eqb i i refl)

      other : (a i : ℕ) → (a ≡ i → ⊥) → only (eqb a i) p.amount ≡ 0
      other a i ne = only_false (eqb a i) p.amount (ne_eqb a i ne)

      chain : (p.kind ≡ 1) × Links N p.places N.s N.t → (w : ℕ) × FlowLeft N (without p left) w × (v ≡ adds p + w)
      chain (first, links) = (
        inflow N (at_place (without p left)) N.t,
        record {
          room = omega (arith, without_length);
          kept =
              λ i inner.
              omega (
                arith,
                without_net N.s N.t links i,
                other N.s i (λ e. inner.not_source (sym e)),
                other N.t i (λ e. inner.not_sink (sym e)),
                flow.kept i inner,
              );
          source =
              omega (
                arith,
                without_net N.s N.t links N.s,
                without_net N.s N.t links N.t,
                here N.s,
                here N.t,
                other N.s N.t sound.apart,
                other N.t N.s (λ e. sound.apart (sym e)),
                outflow_less N.t,
              );
          sink = refl;
          out_of_sink = omega (arith, outflow_less N.t);
        },
        omega (
          arith,
          without_net N.s N.t links N.t,
          here N.t,
          other N.s N.t sound.apart,
          outflow_less N.t,
          only_true (eqb p.kind 1) p.amount (eq-eqb p.kind 1 first),
        ),
      )

      ring : (p.kind ≡ 2) × ((a : ℕ) × Links N p.places a a) → (w : ℕ) × FlowLeft N (without p left) w × (v ≡ adds p + w)
      ring (second, (a, links)) = (
        v,
        record {
          room = omega (arith, without_length);
          kept = λ i inner. omega (arith, without_net a a links i, flow.kept i inner);
          source = omega (arith, without_net a a links N.s);
          sink = omega (arith, without_net a a links N.t, outflow_less N.t);
          out_of_sink = omega (arith, outflow_less N.t);
        },
        omega (arith, only_false (eqb p.kind 1) p.amount (ne_eqb p.kind 1 (λ e. omega arith))),
      )

module _ (N : Network) (sound : Sound N) (tails heads : List ℕ) (drawn : Drawn N tails heads) where
  -- The next piece of a flow left.
  pub next_piece : (left : List ℕ) (v : ℕ) → FlowLeft N left v → remaining tails left < length tails
      → PieceOf N left (next N.n N.s N.t tails heads left)
  unfolding next found_in piece_of
  next_piece left v flow some =
      of_walk (walk tails heads N.t left N.n [] start)
      (walk_finds N sound tails heads drawn left v flow start N.n [] start
      (record {
        links = refl;
        full = tt;
        simple = tt;
        new = tt;
        leaves = starts_well N sound tails heads drawn left v flow some;
      })
      (omega arith))
    where
      start : ℕ
      start = start_at tails N.s left

      of_walk : (f : Found) → Walked N left (start_at tails N.s left) f → PieceOf N left (piece_of left f)
      of_walk f w =
          let least_one = least_on left f.places w.some in
          record {
            proper =
                record {
                  some = w.some;
                  simple = w.simple;
                  carries = omega (arith, least_one.1.2, full_at 1 left f.places least_one.1.0 w.full least_one.1.1);
                  shape =
                      ⊎_elim
                      (λ chain.
                      inl (
                        chain.0,
                        subst (λ a. Links N f.places a N.t)
                            (chain_starts N sound tails heads drawn left v flow _ f.places chain.1 w.full w.some)
                            chain.1,
                      ))
                      inr w.shape;
                };
            each = least_one.0;
            emptied = least_one.1;
          }

  -- Once nothing leaves the source, no walk meets the sink: the next piece is a ring.
  pub next_ring : (left : List ℕ) (v : ℕ) → FlowLeft N left v → remaining tails left < length tails → length tails ≤ onward tails left N.s
      → (next N.n N.s N.t tails heads left).kind ≡ 2
  next_ring left v flow some dry =
      let is = next_piece left v flow some in
      let places = (next N.n N.s N.t tails heads left).places in
      ⊎_elim (λ chain. absurd (no_chain _ places chain.1 is.each is.proper.some is.proper.carries)) (λ ring. ring.0) is.proper.shape
    where
      no_chain : (d : ℕ) (ks : List ℕ) → Links N ks N.s N.t → AtLeast d left ks → 0 < length ks → 0 < d → ⊥
      no_chain d [] links full long above = omega arith
      no_chain d (k ∷ ks) links full long above =
          omega (arith, full.0, onward_none tails left N.s dry k (omega (arith, links.0, drawn.count)) (sym (drawn.tail_at k) ∙ links.1))

  -- No flow left: no pieces are the whole of it.
  none_whole : (left : List ℕ) (v : ℕ) → FlowLeft N left v → ((k : ℕ) → k < N.m → get_or left k 0 ≡ 0) → Whole N left v []
  unfolding in_chains carried inflow
  none_whole left v flow empty =
      record {
        proper = tt;
        chains =
            omega (
              arith,
              flow.sink,
              sum_zero N.m (λ k. only (eqb (N.head k) N.t) (get_or left k 0))
                  (λ k l. omega (arith, only_le (eqb (N.head k) N.t) (get_or left k 0), empty k l)),
            );
        places = λ k l. sym (empty k l);
      }

  -- Where no place is filled, all are empty.
  none_filled : (left : List ℕ) → filled N left ≤ 0 → (k : ℕ) → k < N.m → get_or left k 0 ≡ 0
  unfolding filled
  none_filled left none k l =
      by_test (ltb 0 (get_or left k 0))
      (λ e.
      absurd
      (omega (
        arith,
        sum_term N.m (λ j. only (ltb 0 (get_or left j 0)) 1) k l,
        only_true (ltb 0 (get_or left k 0)) 1 e,
      )))
      (λ e. omega (arith, ltb-false 0 (get_or left k 0) e))

  -- A piece, and the whole of what is left without it.
  more_whole : (left : List ℕ) (v w : ℕ) (p : Piece) (ps : List Piece) → N.m ≤ length left → PieceOf N left p → v ≡ adds p + w
      → Whole N (without p left) w ps → Whole N left v (p ∷ ps)
  unfolding in_chains carried
  more_whole left v w p ps room is value rest =
      record {
        proper = (is.proper, rest.proper);
        chains = omega (arith, rest.chains);
        places = λ k l. omega (arith, rest.places k l, without_place N left p is room k);
      }

  -- With a piece for each filled place, the pieces are the whole of a flow left.
  pub pieces_whole : (most : ℕ) (left : List ℕ) (v : ℕ) → FlowLeft N left v → filled N left ≤ most
      → Whole N left v (pieces N.n N.s N.t tails heads most left)
  unfolding pieces
  pieces_whole zero left v flow few = none_whole left v flow (none_filled left few)
  pieces_whole (suc most) left v flow few =
      by_cond (Whole N left v) (ltb (remaining tails left) (length tails)) _ _
      (λ some.
      let is = next_piece left v flow (ltb-true _ _ some) in
      let rest = without_flow N left _ is flow.room sound v flow in
      more_whole left v rest.0 _ _ flow.room is rest.2
      (pieces_whole most _ rest.0 rest.1 (omega (arith, fewer N left _ is flow.room))))
      (λ none. none_whole left v flow (λ k l. remaining_none tails left (ltb-false _ _ none) k (omega (arith, drawn.count))))

  -- A flow of value v of which nothing leaves the sink is a flow left.
  pub flow_left : (row : List ℕ) (v : ℕ) → N.m ≤ length row → Flow N (at_place row) → Value N (at_place row) v → Silent N (at_place row) → FlowLeft N row v
  flow_left row v room flow value silent =
      record {
        room = room;
        kept = flow.kept;
        source = value;
        sink = sink_gets N sound (at_place row) flow v value silent;
        out_of_sink = silent_outflow N (at_place row) silent;
      }

  -- Document 02: its chains add up to its value, its chains and rings to each arc's flow.
  pub chains_whole : (row : List ℕ) (v : ℕ) → FlowLeft N row v → Whole N row v (pieces N.n N.s N.t tails heads (length tails) row)
  unfolding filled
  chains_whole row v flow =
      pieces_whole (length tails) row v flow
      (omega (
        arith,
        sum_bound N.m 1 (λ k. only (ltb 0 (get_or row k 0)) 1) (λ k _. only_le (ltb 0 (get_or row k 0)) 1),
        drawn.count,
      ))

-- The number of pieces is at most the number asked for: at most m.
pub pieces_few : (n s t : ℕ) (tails heads : List ℕ) (most : ℕ) (left : List ℕ) → length (pieces n s t tails heads most left) ≤ most
unfolding pieces
pieces_few n s t tails heads zero left = omega arith
pieces_few n s t tails heads (suc most) left =
    by_cond (λ ps. length ps ≤ suc most) (ltb (remaining tails left) (length tails))
    (next n s t tails heads left ∷ pieces n s t tails heads most (without (next n s t tails heads left) left)) []
    (λ _. omega (arith, pieces_few n s t tails heads most (without (next n s t tails heads left) left)))
    (λ _. omega arith)

-- The list of numbers has at most 3 numbers and a place for each node, for each piece.
pub numbers_short : (N : Network) → Sound N → (ps : List Piece) → AllProper N ps → length (numbers ps) ≤ length ps * (3 + N.n)
unfolding numbers
numbers_short N sound [] all = omega arith
numbers_short N sound (p ∷ ps) all =
    omega (arith, length-append p.places (numbers ps), numbers_short N sound ps all.1, short)
  where
    short : length p.places ≤ N.n
    short =
        ⊎_elim
        (λ chain. simple_short N sound p.places N.s N.t chain.1 all.0.simple)
        (λ ring. simple_short N sound p.places ring.1.0 ring.1.0 ring.1.1 all.0.simple)
        all.0.shape
