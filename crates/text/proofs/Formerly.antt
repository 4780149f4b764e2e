-- Every text that the former rule accepted gives the same table.
use Prim.Native.Nat.{ℕ, suc, ◌≤◌}
use Prim.Native.Char.{code}
use mathlib.Core.Path.{◌≡◌, refl, sym, ap, subst, ◌∙◌}
use mathlib.Core.Logic.{◌⊎◌, inl, inr, ⊎_elim}
use mathlib.Core.Bool.{Bool, true, false, cond, not, true≢false}
use mathlib.Core.List.{List, [], ◌∷◌, ◌++◌}
use native.Mathlib.Omega.{arith}
use lib.Dec.{leb, ltb, eqb, lit≤}
use lib.ListN.{length, get_or, drop}
use borrow.Author.Tests.{leb-true, eqb-true, ne_eqb}
use Rattle.std.specs.Prelude.{Option, Some, None, Ok, Err}
use Rattle.table.specs.Checks.{refusal_at}
use Rattle.rows.proofs.Sums.{both_true}
use Rattle.minimums.specs.declared.Arc.{Arc}
use Rattle.table.specs.declared.Name.TheVariants.{Long}
use Rattle.table.specs.Ascii.{bytes}
use Rattle.scan.specs.Parts.{in_front, parts, lines, begins_with, is_these, is_separator, behind, fields}
use Rattle.scan.specs.Numbers.{is_digit, all_digits, leading_zero, number_form, number_in}
use Rattle.scan.specs.Fields.{is_letter}
use Rattle.text.specs.declared.Kind.{Kind}
use Rattle.text.specs.declared.Kind.TheVariants.{Comment, Other}
use Rattle.text.specs.declared.Progress.{Progress}
use Rattle.text.specs.declared.Header.{Header}
use Rattle.text.specs.Lines.{Given, Step, problem_from, problem_of, end_from, end_of, arc_from, minimum_in, arc_of, kind_from, kind_of, step_of, onwards, fresh, judge, arc_in, arcs_of}
use Rattle.text.specs.Reading.{table_verdict, after_judging, given_by}
use Rattle.text.specs.Former.{former_fields, former_problem, former_arc, former_kind, former_judge, former_arcs, former_after, former_given}

-- No byte of a field is a separator.
abbrev Plain : List ℕ → Type 0
Plain [] = Unit {0}
Plain (b ∷ rest) = (is_separator b ≡ false) × Plain rest

-- A field is solid: not empty, and no byte of it is a separator.
abbrev Solid : List ℕ → Type 0
Solid field = (1 ≤ length field) × Plain field

-- All fields are solid.
abbrev Solids : List (List ℕ) → Type 0
Solids [] = Unit {0}
Solids (f ∷ fs) = Solid f × Solids fs

-- All fields but the first are solid, which may be empty.
abbrev Clean : List (List ℕ) → Type 0
Clean [] = Unit {0}
Clean (f ∷ fs) = Plain f × Solids fs

-- A digit is no separator.
digit_plain : (b : ℕ) → is_digit b ≡ true → is_separator b ≡ false
unfolding is_digit is_separator
digit_plain b e =
    let low = leb-true 48 b (both_true (leb 48 b) _ e).0 in
    rw (ne_eqb b 32 (λ z. omega arith), ne_eqb b 9 (λ z. omega arith)) refl

-- Digits are no separators.
digits_plain : (f : List ℕ) → all_digits f ≡ true → Plain f
unfolding all_digits
digits_plain [] e = tt
digits_plain (b ∷ f) e = let (first, others) = both_true (is_digit b) _ e in (digit_plain b first, digits_plain f others)

-- A field that says a number has its form.
has_form : (t : Bool) (x v : ℕ) → cond t (Some x) None ≡ Some v → t ≡ true
has_form true x v e = refl
has_form false x v e = absurd (let z : ◌≡◌ {A = ℕ} 0 1 = cc in omega arith)

-- A number is solid.
number_solid : (f : List ℕ) (v : ℕ) → number_in f ≡ Some v → Solid f
unfolding number_in number_form
number_solid f v e =
    let (form, fits) = both_true (number_form f) _ (has_form _ _ v e) in
    let (some, rest) = both_true (leb 1 (length f)) _ form in
    let (few, digits) = both_true (leb (length f) 10) _ rest in
    (leb-true 1 (length f) some, digits_plain f (both_true (not (leading_zero f)) (all_digits f) digits).1)

-- A field that is this letter is this one byte.
letter_is : (l : ℕ) (f : List ℕ) → is_letter l f ≡ true → f ≡ l ∷ []
unfolding is_letter
letter_is l [] e = absurd (true≢false (sym e))
letter_is l (b ∷ []) e = ap (λ (b : ℕ). b ∷ []) (eqb-true b l e)
letter_is l (b ∷ (d ∷ f)) e = absurd (true≢false (sym e))

-- A letter is solid.
letter_solid : (l : ℕ) (f : List ℕ) → is_separator l ≡ false → is_letter l f ≡ true → Solid f
letter_solid l f h e = subst Solid (sym (letter_is l f e)) (lit≤ tt, (h, tt))

-- Solid fields stay behind a separator.
solid_behind : (fs : List (List ℕ)) → Solids fs → behind fs ≡ fs
unfolding behind
solid_behind [] h = refl
solid_behind ([] ∷ fs) h = absurd (omega (arith, h.0.0))
solid_behind ((b ∷ f) ∷ fs) h = refl

-- Solid fields are clean.
solid_clean : (fs : List (List ℕ)) → Solids fs → Clean fs
solid_clean [] h = tt
solid_clean (f ∷ fs) h = (h.0.1, h.1)

-- A line that has its former fields still, has them with a byte in front.
same_more : (b : ℕ) (fs gs : List (List ℕ)) (t : Bool) → eqb b (code " ") ≡ t → (Clean gs → fs ≡ gs) → Clean (cond t ([] ∷ gs) (in_front b gs))
    → cond (is_separator b) ([] ∷ behind fs) (in_front b fs) ≡ cond t ([] ∷ gs) (in_front b gs)
unfolding in_front is_separator
same_more b fs gs true e more h = rw (e, more (solid_clean gs h.1), solid_behind gs h.1) refl
same_more b fs [] false e more h = rw (h.0.0, more tt) refl
same_more b fs (g ∷ gs) false e more h = rw (h.0.0, more (h.0.1, h.1)) refl

-- A line whose former fields are clean has them still.
same_fields : (line : List ℕ) → Clean (former_fields line) → fields line ≡ former_fields line
unfolding parts fields
same_fields [] h = refl
same_fields (b ∷ rest) h = same_more b (fields rest) (former_fields rest) (eqb b (code " ")) refl (same_fields rest) h

-- Behind two solid fields and its number, a former n line has a letter as its third, or is not of its form.
end_letter : (x y z : List ℕ) (id : ℕ) (s t : Bool) → is_letter (code "s") z ≡ s → is_letter (code "t") z ≡ t → Solid x → Solid y
    → (end_from s t (Some id) ≡ Other) ⊎ Solids (x ∷ y ∷ z ∷ [])
unfolding end_from is_separator
end_letter x y z id true t e f first second = inr (first, (second, (letter_solid (code "s") z refl e, tt)))
end_letter x y z id false true e f first second = inr (first, (second, (letter_solid (code "t") z refl f, tt)))
end_letter x y z id false false e f first second = inl refl

-- Behind a solid field, a former n line has a number and a letter, or is not of its form.
end_number : (x y z : List ℕ) (a : Option ℕ) → number_in y ≡ a → Solid x
    → (end_from (is_letter (code "s") z) (is_letter (code "t") z) a ≡ Other) ⊎ Solids (x ∷ y ∷ z ∷ [])
unfolding end_from
end_number x y z (Some id) e first = end_letter x y z id (is_letter (code "s") z) (is_letter (code "t") z) refl refl first (number_solid y id e)
end_number x y z None e first = inl refl

-- The fields of a former n line are solid, or it is not of its form.
end_solid : (fs : List (List ℕ)) → is_letter (code "n") (get_or fs 0 []) ≡ true → (end_of fs ≡ Other) ⊎ Solids fs
unfolding end_of is_separator
end_solid [] h = inl refl
end_solid (x ∷ []) h = inl refl
end_solid (x ∷ (y ∷ [])) h = inl refl
end_solid (x ∷ (y ∷ (z ∷ []))) h = end_number x y z (number_in y) refl (letter_solid (code "n") x refl h)
end_solid (x ∷ (y ∷ (z ∷ (w ∷ more)))) h = inl (rw (ne_eqb (length (x ∷ y ∷ z ∷ w ∷ more)) 3 (λ e. omega arith)) refl)

-- Behind a solid field, a former `a` line has three numbers, or is not of its form.
arc_number : (x y z w : List ℕ) (a b d : Option ℕ) → number_in y ≡ a → number_in z ≡ b → number_in w ≡ d → Solid x
    → (arc_from (Some 0) a b d ≡ Other) ⊎ Solids (x ∷ y ∷ z ∷ w ∷ [])
unfolding arc_from
arc_number x y z w (Some t) (Some h) (Some c) e f g first = inr (first, (number_solid y t e, (number_solid z h f, (number_solid w c g, tt))))
arc_number x y z w (Some t) (Some h) None e f g first = inl refl
arc_number x y z w (Some t) None d e f g first = inl refl
arc_number x y z w None b d e f g first = inl refl

-- The fields of a former `a` line are solid, and it is one still, of minimum 0; or it is not of its form.
arc_solid : (fs : List (List ℕ)) → is_letter (code "a") (get_or fs 0 []) ≡ true → (former_arc fs ≡ Other) ⊎ (Solids fs × (arc_of fs ≡ former_arc fs))
unfolding former_arc arc_of minimum_in is_separator
arc_solid [] h = inl refl
arc_solid (x ∷ []) h = inl refl
arc_solid (x ∷ (y ∷ [])) h = inl refl
arc_solid (x ∷ (y ∷ (z ∷ []))) h = inl refl
arc_solid (x ∷ (y ∷ (z ∷ (w ∷ [])))) h =
    ⊎_elim inl (λ solid. inr (solid, refl)) (arc_number x y z w (number_in y) (number_in z) (number_in w) refl refl refl (letter_solid (code "a") x refl h))
arc_solid (x ∷ (y ∷ (z ∷ (w ∷ (v ∷ more))))) h = inl (rw (ne_eqb (length (x ∷ y ∷ z ∷ w ∷ v ∷ more)) 4 (λ e. omega arith)) refl)

-- Behind its fixed bytes, a former p line has two numbers, or is not of its form.
problem_number : (x y : List ℕ) (a b : Option ℕ) → number_in x ≡ a → number_in y ≡ b → (problem_from a b ≡ Other) ⊎ Solids (x ∷ y ∷ [])
unfolding problem_from
problem_number x y (Some n) (Some m) e f = inr (number_solid x n e, (number_solid y m f, tt))
problem_number x y (Some n) None e f = inl refl
problem_number x y None b e f = inl refl

-- The fields of a former p line behind its fixed bytes are solid, and make it one still; or it is not of its form.
problem_solid : (fs : List (List ℕ)) → (former_problem fs ≡ Other) ⊎ (Solids fs × (kind_from (bytes "p" ∷ bytes "max" ∷ fs) ≡ former_problem fs))
unfolding former_problem kind_from problem_of is_these begins_with
problem_solid [] = inl refl
problem_solid (x ∷ []) = inl refl
problem_solid (x ∷ (y ∷ [])) = ⊎_elim inl (λ h. inr (h, refl)) (problem_number x y (number_in x) (number_in y) refl refl)
problem_solid (x ∷ (y ∷ (z ∷ more))) = inl (rw (ne_eqb (length (x ∷ y ∷ z ∷ more)) 2 (λ e. omega arith)) refl)

-- Bytes that begin with these are these and the rest.
begins_is : (these xs : List ℕ) → begins_with these xs ≡ true → xs ≡ these ++ drop (length these) xs
unfolding begins_with
begins_is [] xs e = refl
begins_is (t ∷ these) [] e = absurd (true≢false (sym e))
begins_is (t ∷ these) (b ∷ xs) e =
    let (first, others) = both_true (eqb b t) _ e in
    ap (λ (c : ℕ). c ∷ xs) (eqb-true b t first) ∙ ap (λ (rest : List ℕ). t ∷ rest) (begins_is these xs others)

-- The fields of a line that begins with `p max `.
problem_fields : (rest : List ℕ) → Solids (former_fields rest) → fields (bytes "p max " ++ rest) ≡ bytes "p" ∷ bytes "max" ∷ former_fields rest
unfolding fields in_front behind is_separator
problem_fields rest h = rw (same_fields rest (solid_clean (former_fields rest) h), solid_behind (former_fields rest) h) refl

-- Of a line whose first field is `n`, only an n line is looked for.
end_kind : (fs : List (List ℕ)) → is_letter (code "n") (get_or fs 0 []) ≡ true → kind_from fs ≡ end_of fs
unfolding kind_from is_these begins_with is_letter
end_kind fs e = rw (letter_is (code "n") (get_or fs 0 []) e) refl

-- Of a line whose first field is `a`, only an `a` line is looked for.
arc_kind : (fs : List (List ℕ)) → is_letter (code "a") (get_or fs 0 []) ≡ true → kind_from fs ≡ arc_of fs
unfolding kind_from is_these begins_with is_letter
arc_kind fs e = rw (letter_is (code "a") (get_or fs 0 []) e) refl

module _ (line : List ℕ) where
  -- A line is kept if it was not of its form, or is now what it was.
  abbrev Kept : (former now : Kind) → Type 0
  Kept former now = (former ≡ Other) ⊎ (now ≡ former)

  -- A line is kept whose former fields are solid, or make it none of this kind, where its first field is this kind's letter.
  kept_letter : (of : List (List ℕ) → Kind) (t : Bool) {rest : Kind}
      → (t ≡ true → (of (former_fields line) ≡ Other) ⊎ (Solids (former_fields line) × (kind_from (former_fields line) ≡ of (former_fields line))))
      → Kept rest (kind_from (fields line)) → Kept (cond t (of (former_fields line)) rest) (kind_from (fields line))
  kept_letter of true solid rest = ⊎_elim inl (λ h. inr (ap kind_from (same_fields line (solid_clean (former_fields line) h.0)) ∙ h.1)) (solid refl)
  kept_letter of false solid rest = rest

  -- A line is kept that begins with `p max `.
  kept_problem : (t : Bool) {rest : Kind} → begins_with (bytes "p max ") line ≡ t → Kept rest (kind_from (fields line))
      → Kept (cond t (former_problem (former_fields (drop 6 line))) rest) (kind_from (fields line))
  kept_problem true e rest =
      ⊎_elim inl
      (λ h. inr (ap (λ (xs : List ℕ). kind_from (fields xs)) (begins_is (bytes "p max ") line e) ∙ ap kind_from (problem_fields (drop 6 line) h.0) ∙ h.1))
      (problem_solid (former_fields (drop 6 line)))
  kept_problem false e rest = rest

  -- A comment is kept.
  kept_comment : (t : Bool) {former now : Kind} → Kept former now → Kept (cond t Comment former) (cond t Comment now)
  kept_comment true rest = inr refl
  kept_comment false rest = rest

  -- Every line is kept.
  kept_line : Kept (former_kind line) (kind_of line)
  unfolding former_kind kind_of
  kept_line =
      let fs = former_fields line in
      let arc = kept_letter former_arc (is_letter (code "a") (get_or fs 0 [])) (λ e. ⊎_elim inl (λ h. inr (h.0, arc_kind fs e ∙ h.1)) (arc_solid fs e)) (inl refl) in
      let end = kept_letter end_of (is_letter (code "n") (get_or fs 0 [])) (λ e. ⊎_elim inl (λ h. inr (h, end_kind fs e)) (end_solid fs e)) arc in
      kept_comment (begins_with (bytes "c") line) (kept_problem (begins_with (bytes "p max ") line) refl end)

-- Where the lines behind a line make a table still, so they do with that line, by what it does.
kept_onwards : (s : Step) (rest : List (List ℕ)) (q : Header) (place : ℕ)
    → ((r : Progress) (k : ℕ) → former_judge rest r k ≡ Ok q → (judge rest r k ≡ Ok q) × (arcs_of rest ≡ former_arcs rest))
    → onwards s place (former_judge rest) ≡ Ok q → (onwards s place (judge rest) ≡ Ok q) × (arcs_of rest ≡ former_arcs rest)
unfolding onwards
kept_onwards (Ok r) rest q place more e = more r (suc place) e
kept_onwards (Err name) rest q place more e = absurd (let z : ◌≡◌ {A = ℕ} 0 1 = cc in omega arith)

-- A line not of its form makes no table.
stops : (p : Progress) (q : Header) (place : ℕ) (rest : Progress → ℕ → Given) → onwards (step_of p Other) place rest ≡ Ok q → ⊥
unfolding onwards step_of
stops p q place rest e = let z : ◌≡◌ {A = ℕ} 0 1 = cc in omega arith

-- Lines of which the former rule made a table make it still, and have the same arcs.
kept_judged : (ls : List (List ℕ)) (p : Progress) (q : Header) (place : ℕ) → former_judge ls p place ≡ Ok q → (judge ls p place ≡ Ok q) × (arcs_of ls ≡ former_arcs ls)
unfolding former_judge judge former_arcs arcs_of
kept_judged [] p q place e = (e, refl)
kept_judged (line ∷ rest) p q place e =
    ⊎_elim
    (λ other. absurd (stops p q place (former_judge rest) (ap (λ (k : Kind). onwards (step_of p k) place (former_judge rest)) (sym other) ∙ e)))
    (λ now.
    let (judged, arcs) = kept_onwards (step_of p (former_kind line)) rest q place (λ r k. kept_judged rest r q k) e in
    (ap (λ (k : Kind). onwards (step_of p k) place (judge rest)) now ∙ judged, ap (λ (k : Kind). arc_in k ++ arcs_of rest) now ∙ ap (λ (arcs : List Arc). arc_in (former_kind line) ++ arcs) arcs))
    (kept_line line)

-- A text that was read was not too long.
not_long : (t : Bool) (rest : Given) {h : Header} → cond t (Err (refusal_at Long 0)) rest ≡ Ok h → (t ≡ false) × (rest ≡ Ok h)
not_long true rest e = absurd (let z : ◌≡◌ {A = ℕ} 0 1 = cc in omega arith)
not_long false rest e = (refl, e)

-- The lines of a text that was read made a table.
made_table : (arcs : List Arc) (j : Given) (tails heads capacities minimums : ℕ) {h : Header} → former_after arcs j tails heads capacities minimums ≡ Ok h → (k : Header) × (j ≡ Ok k)
unfolding former_after
made_table arcs (Ok k) tails heads capacities minimums e = (k, refl)
made_table arcs (Err why) tails heads capacities minimums e = absurd (let z : ◌≡◌ {A = ℕ} 0 1 = cc in omega arith)

-- Lines of which the former rule made a table give what they gave, whatever the checks of the table say.
kept_given : (ls : List (List ℕ)) (h : Header) (tails heads capacities minimums : ℕ) → former_judge ls fresh 1 ≡ Ok h
    → (after_judging ls (judge ls fresh 1) tails heads capacities minimums ≡ former_after (former_arcs ls) (former_judge ls fresh 1) tails heads capacities minimums) × (arcs_of ls ≡ former_arcs ls)
unfolding after_judging table_verdict former_after
kept_given ls h tails heads capacities minimums table =
    let (judged, arcs) = kept_judged ls fresh h 1 table in
    (rw (judged, table, arcs) refl, arcs)

-- Every text that the former rule accepted gives the same table: the same n, m, s and t, and the same arcs.
pub former_same : (text : List ℕ) (tails heads capacities minimums : ℕ) {h : Header} → former_given text tails heads capacities minimums ≡ Ok h
    → (given_by text tails heads capacities minimums ≡ Ok h) × (arcs_of (lines text) ≡ former_arcs (lines text))
unfolding former_given given_by
former_same text tails heads capacities minimums e =
    let (fits, read) = not_long (ltb 1048576 (length text)) _ e in
    let (k, table) = made_table (former_arcs (lines text)) (former_judge (lines text) fresh 1) tails heads capacities minimums read in
    let (now, arcs) = kept_given (lines text) k tails heads capacities minimums table in
    (rw fits (now ∙ read), arcs)
