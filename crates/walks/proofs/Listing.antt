-- Laws of the code's pass over the pieces, which counts the list's numbers and stores them.
use Prim.Native.Nat.{ℕ, zero, suc, ◌+◌, ◌*◌, ◌-◌, ◌≤◌, ◌<◌}
use native.Mathlib.Omega.{arith}
use mathlib.Core.Path.{◌≡◌, refl, ap, ap₂, sym, subst, ◌∙◌}
use mathlib.Core.List.{List, [], ◌∷◌, ◌++◌}
use borrow.Author.Tests.{lt-ltb, le-ltb}
use lib.ListN.{length, drop, length-append, length-drop}
use lib.Seq.{sets, length-take-le}
use Rattle.rows.specs.Row.{part}
use Rattle.rows.proofs.Storing.{sets_append, sets_front}
use Rattle.pieces.specs.Chains.{Piece, remaining, next, without, pieces, numbers, list_of}
use Rattle.pieces.proofs.Lowest.{cond_true, cond_false}
use Rattle.walks.specs.Rows.{Took, Stored}

-- How long a part of a row is.
part_length : (from end : ℕ) (row : List ℕ) → from ≤ end → end ≤ length row → length (part from end row) ≡ end - from
part_length from end row o l = length-take-le (end - from) (drop from row) (omega (arith, length-drop from row))

-- The numbers of a piece and of those after it.
numbers_cons : (p : Piece) (ps : List Piece) (kind amount : ℕ) (places : List ℕ) → kind ≡ p.kind → amount ≡ p.amount → places ≡ p.places
    → numbers (p ∷ ps) ≡ (kind ∷ amount ∷ length places ∷ places) ++ numbers ps
unfolding numbers
numbers_cons p ps kind amount places a b c =
    ap₂ (λ x y. x ∷ y ∷ length p.places ∷ (p.places ++ numbers ps)) (sym a) (sym b)
    ∙ ap (λ ks. kind ∷ amount ∷ length ks ∷ (ks ++ numbers ps)) (sym c)

module _ (nodes source sink : ℕ) (tails heads : List ℕ) where
  -- What is still to be listed after so many pieces.
  pub rest : ℕ → List ℕ → List ℕ
  rest done left = numbers (pieces nodes source sink tails heads (length tails - done) left)

  -- The list that begins with the next piece.
  rest_more : (done : ℕ) (left : List ℕ) → done < length tails → remaining tails left < length tails
      → rest done left
      ≡ numbers (next nodes source sink tails heads left ∷ pieces nodes source sink tails heads (length tails - (done + 1)) (without (next nodes source sink tails heads left) left))
  unfolding rest pieces
  rest_more done left l some = at_more (length tails - done) (length tails - (done + 1)) (omega arith)
    where
      at_more : (more less : ℕ) → more ≡ less + 1
          → numbers (pieces nodes source sink tails heads more left)
          ≡ numbers (next nodes source sink tails heads left ∷ pieces nodes source sink tails heads less (without (next nodes source sink tails heads left) left))
      at_more zero less b = absurd (omega arith)
      at_more (suc more) less b =
          let same : more ≡ less = omega arith in
          ap numbers
          (cond_true _ _ _ (lt-ltb _ _ some)
          ∙ ap (λ x. next nodes source sink tails heads left ∷ pieces nodes source sink tails heads x (without (next nodes source sink tails heads left) left)) same)

  -- Nothing more is listed where nothing is left,
  rest_none : (done : ℕ) (left : List ℕ) → length tails ≤ remaining tails left → rest done left ≡ []
  unfolding rest pieces numbers
  rest_none done left none = at_more (length tails - done)
    where
      at_more : (more : ℕ) → numbers (pieces nodes source sink tails heads more left) ≡ []
      at_more zero = refl
      at_more (suc more) = ap numbers (cond_false _ _ _ (le-ltb _ _ none))

  -- and after as many pieces as places.
  rest_out : (done : ℕ) (left : List ℕ) → length tails ≤ done → rest done left ≡ []
  unfolding rest pieces numbers
  rest_out done left l = at_none (length tails - done) (omega arith)
    where
      at_none : (more : ℕ) → more ≤ 0 → numbers (pieces nodes source sink tails heads more left) ≡ []
      at_none zero b = refl
      at_none (suc more) b = absurd (omega arith)

  -- The whole list, as it is before the first piece.
  whole_rest : (left : List ℕ) → list_of nodes source sink tails heads left ≡ rest 0 left
  unfolding rest
  whole_rest left =
      let same : length tails ≡ length tails - 0 = omega arith in
      ap (λ x. numbers (pieces nodes source sink tails heads x left)) same

  -- With `done` pieces of a list of `all` numbers, at most 515 each, `at` numbers were counted, and stored if the row that was `old` has room for all.
  pub record Counting (all old list left : List ℕ) (done at : ℕ) : Type 0 where
    pub within : done ≤ length tails
    pub counted : length all ≡ at + length (rest done left)
    pub bounded : at ≤ 515 * done
    pub stored : length all ≤ length old → sets old 0 all ≡ sets list at (rest done left)

  pub counting_starts : (old left : List ℕ) → Counting (list_of nodes source sink tails heads left) old old left 0 0
  counting_starts old left =
      record {
        within = omega arith;
        counted = omega (arith, ap length (whole_rest left));
        bounded = omega arith;
        stored = λ _. ap (sets old 0) (whole_rest left);
      }

  module _ (all old list left : List ℕ) (done at : ℕ) (so_far : Counting all old list left done at) where
    -- Nothing more is to be listed: all is counted and stored.
    all_counted : rest done left ≡ [] → length tails ≤ 4096 → Stored all old list at
    all_counted none few =
        let counted : at ≡ length all = omega (arith, so_far.counted, ap length none) in
        record {
          counted = counted;
          small = omega (arith, so_far.bounded, so_far.within);
          stored =
              λ room.
              sym (so_far.stored (omega arith) ∙ ap (sets list at) none) ∙ sets_front old all (omega arith)
              ∙ ap (λ i. all ++ drop i old) (sym counted);
        }

    pub counting_none : (r : ℕ) → r ≡ remaining tails left → length tails ≤ r → length tails ≤ 4096 → Stored all old list at
    counting_none r e l few =
        let none : length tails ≤ remaining tails left = omega arith in
        all_counted (rest_none done left none) few

    pub counting_out : length tails ≤ done → length tails ≤ 4096 → Stored all old list at
    counting_out l few = all_counted (rest_out done left l) few

    module _ (l : done < length tails) (r : ℕ) (is : r ≡ remaining tails left) (some : r < length tails)
        (walked : List ℕ) (kind amount from end : ℕ)
        (took : Took (next nodes source sink tails heads left) walked kind amount from end) where
      -- The list from here on: the piece, and the rest without it.
      piece_first : rest done left
          ≡ (kind ∷ amount ∷ length (part from end walked) ∷ part from end walked)
          ++ rest (done + 1) (without (next nodes source sink tails heads left) left)
      unfolding rest
      piece_first =
          let inside : remaining tails left < length tails = omega arith in
          rest_more done left l inside
          ∙ numbers_cons (next nodes source sink tails heads left)
          (pieces nodes source sink tails heads (length tails - (done + 1)) (without (next nodes source sink tails heads left) left))
          kind amount (part from end walked) took.kind_is took.amount_is took.places_are

      -- How long a piece may be.
      pub piece_short : length walked ≤ 512 → length (part from end walked) ≤ 512
      piece_short few = omega (arith, part_length from end walked took.in_order took.fits, took.fits)

      -- What is listed after it,
      abbrev later : List ℕ
      later = rest (done + 1) (without (next nodes source sink tails heads left) left)

      -- and its own numbers.
      abbrev own : List ℕ
      own = kind ∷ amount ∷ length (part from end walked) ∷ part from end walked

      after_it : length all ≡ at + (3 + length (part from end walked)) + length later
      after_it = omega (arith, so_far.counted, ap length piece_first, length-append (part from end walked) later)

      -- The piece is counted, and stored where it has room.
      pub counting_turn : (list' left' : List ℕ) (at' : ℕ) → length list ≡ length old → length walked ≤ 512
          → left' ≡ without (next nodes source sink tails heads left) left
          → at' ≡ at + (3 + length (part from end walked))
          → (at + (3 + length (part from end walked)) ≤ length list → list' ≡ sets list at own)
          → Counting all old list' left' (done + 1) at'
      counting_turn list' left' at' same few gone moved wrote =
          subst (λ (row : List ℕ). Counting all old list' row (done + 1) at') (sym gone)
          (record {
            within = omega arith;
            counted = omega (arith, after_it);
            bounded = omega (arith, so_far.bounded, piece_short few);
            stored =
                λ room.
                let next_at : at + length own ≡ at' = omega arith in
                so_far.stored room ∙ ap (sets list at) piece_first ∙ sets_append list own later at
                ∙ ap₂ (λ row i. sets row i later) (sym (wrote (omega (arith, after_it)))) next_at;
          })
