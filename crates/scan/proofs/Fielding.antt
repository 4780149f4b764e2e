-- The field that stands at a place of a line, and the fields behind it.
use Prim.Native.Nat.{ℕ, suc, ◌+◌, ◌-◌, ◌<◌, ◌≤◌}
use mathlib.Core.Path.{◌≡◌, refl, sym, ap, subst, ◌∙◌}
use mathlib.Core.Bool.{Bool, true, false, cond, beq}
use mathlib.Core.List.{List, [], ◌∷◌}
use native.Mathlib.Nat.{add-zero, sub_self}
use native.Mathlib.Omega.{arith}
use lib.ListN.{length, get_or, take, drop, length-drop, get_or-eq_default}
use lib.Seq.{drop-drop, get_or-drop}
use Rattle.scan.specs.Parts.{in_front, is_separator, behind, fields, run, front}
use Rattle.scan.specs.Fields.{field_at}
use Rattle.scan.proofs.Parting.{run_within}

-- A byte in front of bytes that begin with a field and have the others behind it: the longer bytes do too.
opened : (b : ℕ) (xs : List ℕ) (t : Bool) → fields xs ≡ take (front false xs) xs ∷ behind (fields (drop (front false xs) xs))
    → let u = cond (beq t false) (suc (front false xs)) 0 in
    cond t ([] ∷ behind (fields xs)) (in_front b (fields xs))
    ≡ take u (b ∷ xs) ∷ behind (cond t ([] ∷ behind (fields xs)) (fields (drop (front false xs) xs)))
unfolding in_front behind
opened b xs true more = refl
opened b xs false more = rw more refl

-- The bytes behind the first field are those behind it without the first byte, unless that is a separator.
from_here : (b : ℕ) (xs : List ℕ) (t : Bool) → is_separator b ≡ t
    → fields (drop (cond (beq t false) (suc (front false xs)) 0) (b ∷ xs)) ≡ cond t ([] ∷ behind (fields xs)) (fields (drop (front false xs) xs))
unfolding fields
from_here b xs true e = rw e refl
from_here b xs false e = refl

-- The first field is what stands before the first separator or the end, and the others stand behind it.
fields_open : (xs : List ℕ) → fields xs ≡ take (front false xs) xs ∷ behind (fields (drop (front false xs) xs))
unfolding fields run behind
fields_open [] = refl
fields_open (b ∷ xs) = opened b xs (is_separator b) (fields_open xs) ∙ rw (from_here b xs (is_separator b) refl) refl

-- A field that has a byte stays behind a separator.
kept : (b : ℕ) (fs : List (List ℕ)) → behind (in_front b fs) ≡ in_front b fs
unfolding in_front behind
kept b [] = refl
kept b (f ∷ fs) = refl

-- Behind the separators at the front of some bytes stands a field that has a byte.
abbrev Begun : List ℕ → Type 0
Begun xs = (behind (fields xs) ≡ fields (drop (front true xs) xs)) × (1 ≤ front false (drop (front true xs) xs))

-- Where a field begins behind the separators at the front, one does with a byte more in front.
begun_more : (b : ℕ) (xs : List ℕ) (t : Bool) → is_separator b ≡ t → (front true xs < length xs → Begun xs)
    → cond (beq t true) (suc (front true xs)) 0 < suc (length xs)
    → let ys = drop (cond (beq t true) (suc (front true xs)) 0) (b ∷ xs) in
    (behind (fields (b ∷ xs)) ≡ fields ys) × (1 ≤ front false ys)
unfolding fields run behind
begun_more b xs true e more h = let (opens, some) = more (omega arith) in (rw e opens, some)
begun_more b xs false e more h = (rw e (kept b (fields xs)), rw e (omega arith))

-- Where a byte stands behind the separators at the front, a field begins with it.
begun : (xs : List ℕ) → front true xs < length xs → Begun xs
unfolding run
begun [] h = absurd (omega arith)
begun (b ∷ xs) h = begun_more b xs (is_separator b) refl (begun xs) h

-- Where no field stands behind separators, none stands behind one more.
ended_more : (b : ℕ) (xs : List ℕ) (t : Bool) → is_separator b ≡ t → (length xs ≤ front true xs → behind (fields xs) ≡ [])
    → suc (length xs) ≤ cond (beq t true) (suc (front true xs)) 0 → behind (fields (b ∷ xs)) ≡ []
unfolding fields behind
ended_more b xs true e more h = rw e (more (omega arith))
ended_more b xs false e more h = absurd (omega arith)

-- Behind nothing but separators stands no field.
ended : (xs : List ℕ) → length xs ≤ front true xs → behind (fields xs) ≡ []
unfolding fields behind run
ended [] h = refl
ended (b ∷ xs) h = ended_more b xs (is_separator b) refl (ended xs) h

-- A walk over a line stands at `stop`, behind `count` fields of it.
pub record Passed (line : List ℕ) (stop count : ℕ) : Type 0 where
  pub within : stop ≤ length line
  pub few : count ≤ stop + 1
  pub some : count ≤ length (fields line)
  pub others : drop count (fields line) ≡ behind (fields (drop stop line))

module _ (line : List ℕ) (stop : ℕ) (e : stop ≡ 0 + front false (drop 0 line)) where
  -- The walk starts behind the first field.
  pub passed_first : Passed line stop 1
  passed_first =
      let n : stop ≡ front false line = omega arith in
      record {
        within = omega (arith, run_within (λ b. beq (is_separator b) false) line 0 (omega arith));
        few = omega arith;
        some = omega (arith, ap length (fields_open line));
        others = rw n (ap (drop 1) (fields_open line));
      }

  -- That field stands from the line's first byte on.
  pub first_here : take (stop - 0) (drop 0 line) ≡ field_at line 0
  first_here =
      let n : stop - 0 ≡ front false line = omega arith in
      rw n (sym (ap (λ (fs : List (List ℕ)). get_or fs 0 []) (fields_open line)))

module _ {line : List ℕ} {stop count : ℕ} (w : Passed line stop count) (next : ℕ) (e : next ≡ stop + front true (drop stop line)) where
  -- Where only separators follow, these were all fields.
  pub passed_all : length line ≤ next → count ≡ length (fields line)
  passed_all h =
      let none = ended (drop stop line) (rw length-drop (omega (arith, w.within))) in
      let left : length (fields line) - count ≡ 0 = sym (length-drop count (fields line)) ∙ ap length (w.others ∙ none) in
      omega (arith, w.some)

  -- Where only separators follow, every later field is empty.
  pub later_none : (k n : ℕ) (xs : List ℕ) → length line ≤ next → count ≤ k → take (n - n) xs ≡ field_at line k
  later_none k n xs h more = rw sub_self (sym (get_or-eq_default (fields line) [] (omega (arith, passed_all h))))

  -- A byte that is no separator stands at `next`: the next field stands from there to `stop'`.
  module _ (stop' : ℕ) (f : stop' ≡ next + front false (drop next line)) (h : next < length line) where
    -- The bytes where it begins are those behind the separators.
    moved : drop (front true (drop stop line)) (drop stop line) ≡ drop next line
    moved = drop-drop (front true (drop stop line)) stop line ∙ ap (λ (n : ℕ). drop n line) (sym e)

    -- It has a byte, and stands before the others.
    next_opens : (1 ≤ front false (drop next line))
        × (drop count (fields line) ≡ take (front false (drop next line)) (drop next line) ∷ behind (fields (drop (front false (drop next line)) (drop next line))))
    next_opens =
        let (opens, some) = begun (drop stop line) (rw length-drop (omega (arith, w.within))) in
        (subst (λ (ys : List ℕ). 1 ≤ front false ys) moved some, w.others ∙ opens ∙ ap fields moved ∙ fields_open (drop next line))

    -- The walk goes on behind it.
    pub passed_next : Passed line stop' (count + 1) × (next < stop')
    passed_next =
        let u = front false (drop next line) in
        let (one, all) = next_opens in
        let left : length (fields line) - count ≡ suc (length (behind (fields (drop u (drop next line))))) = sym (length-drop count (fields line)) ∙ ap length all in (
          record {
            within = omega (arith, run_within (λ b. beq (is_separator b) false) line next (omega arith));
            few = omega (arith, w.few);
            some = omega arith;
            others = sym (drop-drop 1 count (fields line)) ∙ ap (drop 1) all
                ∙ ap (λ (ys : List ℕ). behind (fields ys)) (drop-drop u next line ∙ ap (λ (n : ℕ). drop n line) (sym f));
          },
          omega arith,
        )

    -- It is the field with that number.
    pub next_here : take (stop' - next) (drop next line) ≡ field_at line count
    next_here =
        let u = front false (drop next line) in
        let n : stop' - next ≡ u = omega arith in
        let first : get_or (drop count (fields line)) 0 [] ≡ field_at line count = get_or-drop count (fields line) 0 [] ∙ rw add-zero refl in
        rw n (sym (ap (λ (fs : List (List ℕ)). get_or fs 0 []) next_opens.1) ∙ first)
