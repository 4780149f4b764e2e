-- The first arc of each pair, and the chains that lead to it.
use Prim.Native.Nat.{ℕ, zero, suc, ◌*◌, ◌<◌, ◌≤◌}
use mathlib.Core.Path.{◌≡◌, refl, sym, ap, ap₂, subst, ◌∙◌}
use mathlib.Core.Bool.{Bool, true, false, ◌&&◌, true≢false}
use mathlib.Core.List.{List}
use native.Mathlib.Omega.{arith}
use lib.Dec.{leb, eqb}
use lib.ListN.{length, set, length-set}
use lib.Seq.{get_or-set_same, get_or-set_other}
use borrow.Author.Tests.{le-leb, leb-true, eq-eqb, eqb-true}
use Rattle.rows.specs.Row.{Node, at_place}
use Rattle.rows.specs.Sum.{only}
use Rattle.rows.proofs.Sums.{both_true, by_test, by_equal}
use Rattle.table.specs.Accepted.{ArcEnds}
use Rattle.sharing.specs.Full.{is_pair}
use Rattle.pairs.specs.Places.{is_node, first_or, first_to, chain_of, Leads, ended, here, on, Places, Built, Zeros}

-- ---- nodes

-- A number that passes the test is a node,
pub node_is : (n i : ℕ) → is_node n i ≡ true → Node n i
unfolding is_node
node_is n i e = let (low, high) = both_true (leb 1 i) (leb i n) e in (leb-true _ _ low, leb-true _ _ high)

-- and one that fails it is none.
pub node_none : (n i : ℕ) → is_node n i ≡ false → Node n i → ⊥
unfolding is_node
node_none n i e v =
    let passes : is_node n i ≡ true = rw (le-leb 1 i v.0, le-leb i n v.1) refl in
    true≢false (sym passes ∙ e)

-- ---- pairs

-- The test for a pair, of that pair,
pub pair_true : (a b : ℕ) → is_pair a b a b ≡ true
pair_true a b = rw (eq-eqb a a refl, eq-eqb b b refl) refl

-- and of another.
pub pair_false : (a b c d : ℕ) → ((c ≡ a) × (d ≡ b) → ⊥) → is_pair a b c d ≡ false
pair_false a b c d apart = by_test (eqb c a)
    (λ first. by_test (eqb d b)
    (λ second. absurd (apart (eqb-true c a first, eqb-true d b second)))
    (λ second. ap₂ ◌&&◌ first second))
    (λ first. ap (λ (t : Bool). t && eqb d b) first)

-- A pair that passes the test is that pair.
pub pair_is : (a b c d : ℕ) → is_pair a b c d ≡ true → (c ≡ a) × (d ≡ b)
pair_is a b c d e = let (first, second) = both_true (eqb c a) (eqb d b) e in (eqb-true c a first, eqb-true d b second)

-- ---- the first arc of a pair

module _ (tail head : ℕ → ℕ) where
  -- Once there is one it stays,
  first_have : (k a b x : ℕ) → first_to tail head k a b ≡ suc x → first_to tail head (suc k) a b ≡ suc x
  unfolding first_to first_or
  first_have k a b x e = rw e refl

  -- one that comes first is it,
  first_new : (k a b : ℕ) → first_to tail head k a b ≡ 0 → is_pair a b (tail k) (head k) ≡ true → first_to tail head (suc k) a b ≡ suc k
  unfolding first_to first_or
  first_new k a b e f = rw (e, f) refl

  -- and an arc of another pair is not.
  first_skip : (k a b : ℕ) → is_pair a b (tail k) (head k) ≡ false → first_to tail head (suc k) a b ≡ first_to tail head k a b
  unfolding first_to first_or
  first_skip k a b f = rw f (or_none (first_to tail head k a b))
    where
      or_none : (x : ℕ) → first_or x 0 ≡ x
      or_none zero = refl
      or_none (suc x) = refl

  -- It is an arc of that pair,
  pub first_is : (k a b x : ℕ) → first_to tail head k a b ≡ suc x → (x < k) × (tail x ≡ a) × (head x ≡ b)
  unfolding first_to first_or
  first_is zero a b x e = absurd (omega arith)
  first_is (suc k) a b x e = by_first (first_to tail head k a b) refl (first_is k a b) e
    where
      by_here : (t : Bool) → is_pair a b (tail k) (head k) ≡ t → only t (suc k) ≡ suc x → (x < suc k) × (tail x ≡ a) × (head x ≡ b)
      by_here true f p =
          let (first, second) = pair_is a b (tail k) (head k) f in
          let same : k ≡ x = omega arith in
          (omega arith, ap tail (sym same) ∙ first, ap head (sym same) ∙ second)
      by_here false f p = absurd (omega arith)

      by_first : (v : ℕ) → first_to tail head k a b ≡ v → ((y : ℕ) → first_to tail head k a b ≡ suc y → (y < k) × (tail y ≡ a) × (head y ≡ b))
          → first_or v (only (is_pair a b (tail k) (head k)) (suc k)) ≡ suc x → (x < suc k) × (tail x ≡ a) × (head x ≡ b)
      by_first zero f more p = by_here (is_pair a b (tail k) (head k)) refl p
      by_first (suc y) f more p = let (low, first, second) = more x (f ∙ p) in (omega arith, first, second)

  -- and where there is none no arc has that pair.
  pub first_none : (k a b : ℕ) → first_to tail head k a b ≡ 0 → (j : ℕ) → j < k → is_pair a b (tail j) (head j) ≡ false
  unfolding first_to first_or
  first_none zero a b e j l = absurd (omega arith)
  first_none (suc k) a b e j l = by_first (first_to tail head k a b) refl (first_none k a b) e
    where
      by_here : (t : Bool) → is_pair a b (tail k) (head k) ≡ t → only t (suc k) ≡ 0 → is_pair a b (tail k) (head k) ≡ false
      by_here true f p = absurd (omega arith)
      by_here false f p = f

      by_first : (v : ℕ) → first_to tail head k a b ≡ v → (first_to tail head k a b ≡ 0 → (i : ℕ) → i < k → is_pair a b (tail i) (head i) ≡ false)
          → first_or v (only (is_pair a b (tail k) (head k)) (suc k)) ≡ 0 → is_pair a b (tail j) (head j) ≡ false
      by_first zero f more p =
          by_equal j k
          (λ same. ap (λ (i : ℕ). is_pair a b (tail i) (head i)) same ∙ by_here (is_pair a b (tail k) (head k)) refl p)
          (λ other. more f j (omega arith))
      by_first (suc y) f more p = absurd (omega arith)

  -- Two pairs have not the same first arc.
  pub first_apart : (k a b c d x : ℕ) → first_to tail head k a b ≡ suc x → first_to tail head k c d ≡ suc x → (a ≡ c) × (b ≡ d)
  first_apart k a b c d x e f =
      let (_, p, q) = first_is k a b x e in
      let (_, r, s) = first_is k c d x f in
      (sym p ∙ r, sym q ∙ s)

-- ---- chains

-- A chain whose places fall does not lead up,
pub leads_within : {heads next : List ℕ} {b from found : ℕ} → ((k : ℕ) → at_place next k ≤ k) → Leads heads next b from found → found ≤ from
leads_within falls (ended _ _ e f) = omega arith
leads_within falls (here k _ _ e f g) = omega arith
leads_within falls (on k _ _ e f g) = omega (arith, falls k, leads_within falls g)

-- and does not see where a later arc goes on.
leads_kept : {heads next : List ℕ} {b from found : ℕ} → ((k : ℕ) → at_place next k ≤ k) → (j x : ℕ) → Leads heads next b from found → from ≤ j → Leads heads (set next j x) b from found
leads_kept falls j x (ended from found e f) l = ended from found e f
leads_kept falls j x (here k from found e f g) l = here k from found e f g
leads_kept {heads} {next} {b} falls j x (on k from found e f g) l =
    on k from found e f
    (subst (λ (i : ℕ). Leads heads (set next j x) b i found) (sym (get_or-set_other next j k x 0 (λ same. omega arith))) (leads_kept falls j x g (omega (arith, falls k))))

-- ---- the rows of chains

-- Rows that lead to places lead to the same places.
places_same : {n : ℕ} {heads first next : List ℕ} (place place' : ℕ → ℕ → ℕ) → ((a b : ℕ) → place' a b ≡ place a b) → Places n heads first next place → Places n heads first next place'
places_same {n} {heads} {first} {next} place place' same p =
    record {
      first_long = p.first_long;
      next_long = p.next_long;
      falls = p.falls;
      starts = p.starts;
      finds = λ a b v. subst (λ (x : ℕ). Leads heads next b (at_place first (chain_of a b)) x) (sym (same a b)) (p.finds a b v);
      others = λ a b none. same a b ∙ p.others a b none;
      apart = λ a b c d k e f. p.apart a b c d k (sym (same a b) ∙ e) (sym (same c d) ∙ f);
    }

-- Rows of zeros have no arc in a chain.
pub built_none : (n : ℕ) (tails heads first next : List ℕ) → n * 8 ≤ length first → length heads ≤ length next → Zeros first → Zeros next → Built n 0 tails heads first next
unfolding first_to
built_none n tails heads first next long room none none' =
    record {
      places =
          record {
            first_long = long;
            next_long = room;
            falls = λ k. omega (arith, none' k);
            starts = λ q. omega (arith, none q);
            finds = λ a b v. ended _ _ (none (chain_of a b)) refl;
            others = λ a b _. refl;
            apart = λ a b c d k e f. absurd (omega arith);
          };
      begun = λ q. omega (arith, none q);
    }

-- One arc more.
module _ (n k : ℕ) (tails heads first next : List ℕ) (ends : ArcEnds n tails heads) (l : k < length tails) (built : Built n k tails heads first next) where
  abbrev place : (count a b : ℕ) → ℕ
  place = first_to (at_place tails) (at_place heads)

  -- Its pair has a first arc already,
  pub built_same : (x : ℕ) → place k (at_place tails k) (at_place heads k) ≡ suc x → (next_k : ℕ) → next_k ≡ suc k → Built n next_k tails heads first next
  built_same x e next_k is =
      let same : (a b : ℕ) → place (suc k) a b ≡ place k a b = λ a b. by_test (is_pair a b (at_place tails k) (at_place heads k))
      (λ t.
      let (p, q) = pair_is a b (at_place tails k) (at_place heads k) t in
      let f : place k a b ≡ suc x = ap₂ (place k) (sym p) (sym q) ∙ e in
      first_have (at_place tails) (at_place heads) k a b x f ∙ sym f)
      (λ t. first_skip (at_place tails) (at_place heads) k a b t) in
      rw is (record { places = places_same (place k) (place (suc k)) same built.places; begun = λ q. omega (arith, built.begun q) })

  -- or it is the first, and stands in front of its chain.
  module _ (e : place k (at_place tails k) (at_place heads k) ≡ 0) (v : ℕ) (is : v ≡ suc k) where
    abbrev chain : ℕ
    chain = chain_of (at_place tails k) (at_place heads k)

    abbrev old : ℕ
    old = at_place first chain

    abbrev first' : List ℕ
    first' = set first chain v

    abbrev next' : List ℕ
    next' = set next k old

    -- Its tail is a node.
    own : Node n (at_place tails k)
    own = ends.tail_node k l

    -- Its chain begins with it,
    begins_own : (q : ℕ) → q ≡ chain → at_place first' q ≡ suc k
    begins_own q same = ap (at_place first') same ∙ get_or-set_same first chain v 0 (omega (arith, own, built.places.first_long)) ∙ is

    -- and the others begin as before.
    begins_other : (q : ℕ) → (q ≡ chain → ⊥) → at_place first' q ≡ at_place first q
    begins_other q other = get_or-set_other first chain q v 0 other

    -- It goes on as its chain began.
    goes_on : at_place next' k ≡ old
    goes_on = get_or-set_same next k old 0 (omega (arith, built.places.next_long, ends.heads_long))

    -- An arc of another pair is no first arc of this.
    apart_from : (a b : ℕ) → ((at_place tails k ≡ a) × (at_place heads k ≡ b) → ⊥) → place (suc k) a b ≡ place k a b
    apart_from a b ne = first_skip (at_place tails) (at_place heads) k a b (pair_false a b (at_place tails k) (at_place heads k) ne)

    -- What a chain led to before.
    led : (a b : ℕ) → Node n a → Leads heads next' b (at_place first (chain_of a b)) (place k a b)
    led a b w = leads_kept built.places.falls k old (built.places.finds a b w) (built.begun (chain_of a b))

    -- Its chain, all of whose arcs have its tail.
    finds_own : (a b : ℕ) → Node n a → chain_of a b ≡ chain → Leads heads next' b (at_place first' (chain_of a b)) (place (suc k) a b)
    finds_own a b w same =
        let tail : a ≡ at_place tails k = omega (arith, own) in
        by_equal (at_place heads k) b
        (λ there.
        let new : place (suc k) a b ≡ suc k =
        first_new (at_place tails) (at_place heads) k a b (ap₂ (place k) tail (sym there) ∙ e) (ap₂ (λ (x y : ℕ). is_pair x y (at_place tails k) (at_place heads k)) tail (sym there) ∙ pair_true (at_place tails k) (at_place heads k)) in
        here k _ _ (begins_own (chain_of a b) same) (new ∙ sym (begins_own (chain_of a b) same)) there)
        (λ other.
        on k _ _ (begins_own (chain_of a b) same) other
        (subst (λ (x : ℕ). Leads heads next' b x (place (suc k) a b)) (ap (at_place first) same ∙ sym goes_on)
        (subst (λ (x : ℕ). Leads heads next' b (at_place first (chain_of a b)) x) (sym (apart_from a b (λ both. other both.1))) (led a b w))))

    -- The others.
    finds_other : (a b : ℕ) → Node n a → (chain_of a b ≡ chain → ⊥) → Leads heads next' b (at_place first' (chain_of a b)) (place (suc k) a b)
    finds_other a b w other =
        subst (λ (x : ℕ). Leads heads next' b x (place (suc k) a b)) (sym (begins_other (chain_of a b) other))
        (subst (λ (x : ℕ). Leads heads next' b (at_place first (chain_of a b)) x) (sym (apart_from a b (λ both. other (ap₂ chain_of (sym both.0) (sym both.1))))) (led a b w))

    pub built_new : Built n v tails heads first' next'
    built_new =
        subst (λ (j : ℕ). Built n j tails heads first' next') (sym is)
        (record {
          places =
              record {
                first_long = omega (arith, length-set first chain v, built.places.first_long);
                next_long = omega (arith, length-set next k old, built.places.next_long);
                falls =
                    λ j.
                    by_equal j k
                    (λ same. omega (arith, ap (at_place next') same, goes_on, built.begun chain))
                    (λ other. omega (arith, get_or-set_other next k j old 0 other, built.places.falls j));
                starts =
                    λ q.
                    by_equal q chain
                    (λ same. omega (arith, begins_own q same, ends.heads_long))
                    (λ other. omega (arith, begins_other q other, built.places.starts q));
                finds = λ a b w. by_equal (chain_of a b) chain (λ same. finds_own a b w same) (λ other. finds_other a b w other);
                others = λ a b none. apart_from a b (λ both. none (subst (Node n) both.0 own)) ∙ built.places.others a b none;
                apart = first_apart (at_place tails) (at_place heads) (suc k);
              };
          begun =
              λ q.
              by_equal q chain
              (λ same. omega (arith, begins_own q same))
              (λ other. omega (arith, begins_other q other, built.begun q));
        })

-- The same of rows that hold what is stored.
pub built_added : (n k : ℕ) (tails heads first next : List ℕ) → ArcEnds n tails heads → k < length tails → Built n k tails heads first next
    → first_to (at_place tails) (at_place heads) k (at_place tails k) (at_place heads k) ≡ 0 → (v : ℕ) → v ≡ suc k
    → (chain : ℕ) → chain ≡ chain_of (at_place tails k) (at_place heads k) → Built n v tails heads (set first chain v) (set next k (at_place first chain))
built_added n k tails heads first next ends l built e v is chain same = rw same (built_new n k tails heads first next ends l built e v is)
