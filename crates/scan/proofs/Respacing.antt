-- Texts that differ only in how many separators stand where one stood have the same fields, line by line.
use Prim.Native.Nat.{ℕ, ◌≤◌}
use mathlib.Core.Path.{◌≡◌, refl, sym, ap, ◌∙◌}
use mathlib.Core.Bool.{Bool, true, false, cond, ◌&&◌, true≢false}
use mathlib.Core.List.{List, [], ◌∷◌, ◌++◌, append-nil, map}
use native.Mathlib.Omega.{arith}
use lib.Dec.{eqb}
use lib.ListN.{length, get_or}
use borrow.Author.Tests.{eqb-true}
use Rattle.rows.proofs.Sums.{both_true}
use Rattle.scan.specs.Parts.{in_front, parts, lines, LF, begins_with, is_separator, behind, fields}
use Rattle.scan.specs.Fields.{field_at}
use Rattle.scan.specs.Spacing.{separators, Respaced}
use Rattle.scan.specs.Spacing.Respaced.{done, same, between, ending, last}

-- The fields of each line of a text.
abbrev fields_in : List ℕ → List (List (List ℕ))
fields_in text = map fields (lines text)

-- The fields of a line with a byte put in front of it.
unfoldable with_byte : ℕ → List (List ℕ) → List (List ℕ)
with_byte b fs = cond (is_separator b) ([] ∷ behind fs) (in_front b fs)

-- The fields of each line with a byte put in front of the text: an LF ends an empty line, any other stands in the first line.
unfoldable more : ℕ → List (List (List ℕ)) → List (List (List ℕ))
more b [] = cond (eqb b LF) (([] ∷ []) ∷ []) (with_byte b ([] ∷ []) ∷ [])
more b (fs ∷ rest) = cond (eqb b LF) (([] ∷ []) ∷ (fs ∷ rest)) (with_byte b fs ∷ rest)

-- A byte put in front of lines changes their fields so.
more_by : (b : ℕ) (t : Bool) (ls : List (List ℕ)) → eqb b LF ≡ t → map fields (cond t ([] ∷ ls) (in_front b ls)) ≡ more b (map fields ls)
unfolding fields in_front more with_byte
more_by b true [] e = rw e refl
more_by b true (l ∷ ls) e = rw e refl
more_by b false [] e = rw e refl
more_by b false (l ∷ ls) e = rw e refl

-- A byte put in front of a text changes the fields of its lines so.
more_is : (b : ℕ) (xs : List ℕ) → fields_in (b ∷ xs) ≡ more b (fields_in xs)
unfolding parts
more_is b xs = more_by b (eqb b LF) (lines xs) refl

-- The fields of each line with a separator put in front of the text.
unfoldable spaced : List (List (List ℕ)) → List (List (List ℕ))
spaced [] = ([] ∷ []) ∷ []
spaced (fs ∷ rest) = ([] ∷ behind fs) ∷ rest

-- A separator is no LF.
no_lf : (b : ℕ) (t : Bool) → is_separator b ≡ true → eqb b LF ≡ t → t ≡ false
unfolding is_separator
no_lf b true h e = absurd (true≢false (sym h ∙ ap is_separator (eqb-true b LF e)))
no_lf b false h e = refl

-- A separator put in front of a text changes the fields of its lines so.
spaced_by : (b : ℕ) (fss : List (List (List ℕ))) → is_separator b ≡ true → more b fss ≡ spaced fss
unfolding more with_byte spaced behind
spaced_by b [] h = rw (no_lf b (eqb b LF) h refl, h) refl
spaced_by b (fs ∷ rest) h = rw (no_lf b (eqb b LF) h refl, h) refl

-- A second separator in front changes nothing more.
spaced_twice : (fss : List (List (List ℕ))) → spaced (spaced fss) ≡ spaced fss
unfolding spaced behind
spaced_twice [] = refl
spaced_twice (fs ∷ rest) = refl

-- One or more separators in front change as much as one.
some_spaced : (r : List ℕ) → separators r ≡ true → 1 ≤ length r → (xs : List ℕ) → fields_in (r ++ xs) ≡ spaced (fields_in xs)
unfolding separators
some_spaced [] h one xs = absurd (omega arith)
some_spaced (b ∷ []) h one xs = more_is b xs ∙ spaced_by b _ (both_true (is_separator b) true h).0
some_spaced (b ∷ (d ∷ r)) h one xs =
    let (first, others) = both_true (is_separator b) _ h in
    more_is b _ ∙ spaced_by b _ first ∙ ap spaced (some_spaced (d ∷ r) others (omega arith) xs) ∙ spaced_twice _

-- Before an LF any number of them changes nothing.
before_lf : (r : List ℕ) → separators r ≡ true → (xs : List ℕ) → fields_in (r ++ (LF ∷ xs)) ≡ ([] ∷ []) ∷ fields_in xs
unfolding separators spaced behind parts fields
before_lf [] h xs = refl
before_lf (b ∷ r) h xs =
    let (first, others) = both_true (is_separator b) _ h in
    more_is b (r ++ (LF ∷ xs)) ∙ spaced_by b _ first ∙ ap spaced (before_lf r others xs)

-- Before the text's end, behind another byte, any number of them changes nothing.
before_end : (b : ℕ) (r : List ℕ) → eqb b LF ≡ false → separators r ≡ true → fields_in (b ∷ r) ≡ with_byte b ([] ∷ []) ∷ []
unfolding more spaced parts
before_end b [] h e = more_is b [] ∙ rw h refl
before_end b (d ∷ r) h e = more_is b (d ∷ r) ∙ ap (more b) (ap fields_in (sym (append-nil (d ∷ r))) ∙ some_spaced (d ∷ r) e (omega arith) []) ∙ rw h refl

-- Texts that differ only in their separators have the same fields, line by line.
pub respaced_fields : {xs ys : List ℕ} → Respaced xs ys → map fields (lines xs) ≡ map fields (lines ys)
respaced_fields done = refl
respaced_fields (same {xs} {ys} b rest) = more_is b xs ∙ ap (more b) (respaced_fields rest) ∙ sym (more_is b ys)
respaced_fields (between {xs} {ys} r s h k one some rest) = some_spaced r h one xs ∙ ap spaced (respaced_fields rest) ∙ sym (some_spaced s k some ys)
respaced_fields (ending {xs} {ys} r s h k rest) = before_lf r h xs ∙ ap (λ (fss : List (List (List ℕ))). ([] ∷ []) ∷ fss) (respaced_fields rest) ∙ sym (before_lf s k ys)
respaced_fields (last b r s other h k) = before_end b r other h ∙ sym (before_end b s other k)

-- A separator is no other byte.
not_it : (b d : ℕ) (t : Bool) → is_separator b ≡ false → is_separator d ≡ true → eqb d b ≡ t → t ≡ false
not_it b d true h e f = absurd (true≢false (sym e ∙ ap is_separator (eqb-true d b f) ∙ h))
not_it b d false h e f = refl

-- A byte in front of a line stands first in the first field, unless it is a separator.
first_by : (b d : ℕ) (fs : List (List ℕ)) (t : Bool) → is_separator b ≡ false → is_separator d ≡ t
    → eqb d b && true ≡ begins_with (b ∷ []) (get_or (cond t ([] ∷ behind fs) (in_front d fs)) 0 [])
unfolding begins_with in_front
first_by b d fs true h e = rw (not_it b d (eqb d b) h e refl) refl
first_by b d [] false h e = refl
first_by b d (f ∷ fs) false h e = refl

-- A byte that is no separator stands first in a line exactly where it stands first in the first field.
pub first_byte : (b : ℕ) → is_separator b ≡ false → (line : List ℕ) → begins_with (b ∷ []) line ≡ begins_with (b ∷ []) (field_at line 0)
unfolding begins_with fields
first_byte b h [] = refl
first_byte b h (d ∷ rest) = first_by b d (fields rest) (is_separator d) h refl
