-- Texts that differ only in how many separators stand where one stood give the same answer.
use Rattle.std.specs.Prelude.{Ok, Err}
use Prim.Native.Nat.{ℕ, suc, ◌≤◌}
use mathlib.Core.Path.{◌≡◌, refl, sym, ap, ◌∙◌}
use mathlib.Core.Bool.{cond}
use mathlib.Core.List.{List, [], ◌∷◌, ◌++◌, map}
use native.Mathlib.Omega.{arith}
use lib.ListN.{length, get_or}
use borrow.Author.Tests.{le-ltb}
use Rattle.minimums.specs.declared.Arc.{Arc}
use Rattle.table.specs.Ascii.{bytes}
use Rattle.minimums.specs.BoundedTable.{tails_of, heads_of, capacities_of, minimums_of}
use Rattle.scan.specs.Parts.{lines, begins_with, is_separator, fields}
use Rattle.scan.specs.Spacing.{Respaced}
use Rattle.scan.proofs.Respacing.{respaced_fields, first_byte}
use Rattle.text.specs.declared.Kind.{Kind}
use Rattle.text.specs.declared.Kind.TheVariants.{Comment}
use Rattle.text.specs.declared.Progress.{Progress}
use Rattle.text.specs.Lines.{Given, Step, kind_from, kind_of, step_of, onwards, fresh, judge, arc_in, arcs_of}
use Rattle.text.specs.Reading.{table_verdict, after_judging, given_by, values_of, row_after, Reads}

-- What a line is hangs on its fields alone.
kind_by : (line : List ℕ) → kind_of line ≡ cond (begins_with (bytes "c") (get_or (fields line) 0 [])) Comment (kind_from (fields line))
unfolding kind_of is_separator
kind_by line = rw (first_byte 99 refl line) refl

-- Lines with the same fields are the same.
same_kind : (x y : List ℕ) → fields x ≡ fields y → kind_of x ≡ kind_of y
same_kind x y e = kind_by x ∙ ap (λ (fs : List (List ℕ)). cond (begins_with (bytes "c") (get_or fs 0 [])) Comment (kind_from fs)) e ∙ sym (kind_by y)

-- What a line does, and what the lines behind it do, where they do the same.
same_onwards : (s : Step) (place : ℕ) (f g : Progress → ℕ → Given) → ((p : Progress) (k : ℕ) → f p k ≡ g p k) → onwards s place f ≡ onwards s place g
unfolding onwards
same_onwards (Ok p) place f g e = e p (suc place)
same_onwards (Err name) place f g e = refl

-- No lines are not some.
no_lines : {A : Type 0} {x : A} {xs : List A} → [] ≡ x ∷ xs → ⊥
no_lines e = let z : ◌≡◌ {A = ℕ} 0 1 = cc in omega arith

-- Lines with the same fields are judged the same, and have the same arcs.
same_judged : (xs ys : List (List ℕ)) → map fields xs ≡ map fields ys → ((p : Progress) (place : ℕ) → judge xs p place ≡ judge ys p place) × (arcs_of xs ≡ arcs_of ys)
unfolding judge arcs_of
same_judged [] [] e = (λ p place. refl, refl)
same_judged [] (y ∷ ys) e = absurd (no_lines e)
same_judged (x ∷ xs) [] e = absurd (no_lines (sym e))
same_judged (x ∷ xs) (y ∷ ys) e =
    let first : fields x ≡ fields y = cc in
    let others : map fields xs ≡ map fields ys = cc in
    let kind = same_kind x y first in
    let (judged, arcs) = same_judged xs ys others in (
      λ p place. ap (λ (k : Kind). onwards (step_of p k) place (judge xs)) kind ∙ same_onwards (step_of p (kind_of y)) place (judge xs) (judge ys) judged,
      ap (λ (k : Kind). arc_in k ++ arcs_of xs) kind ∙ ap (λ (rest : List Arc). arc_in (kind_of y) ++ rest) arcs,
    )

-- Lines with the same arcs give the same behind their judgement.
same_after : (xs ys : List (List ℕ)) → arcs_of xs ≡ arcs_of ys → (j : Given) (tails heads capacities minimums : ℕ)
    → after_judging xs j tails heads capacities minimums ≡ after_judging ys j tails heads capacities minimums
unfolding after_judging table_verdict
same_after xs ys e (Ok h) tails heads capacities minimums = rw e refl
same_after xs ys e (Err why) tails heads capacities minimums = refl

-- Texts within 1,048,576 bytes that differ only in their separators give the same, and the same arcs.
pub respaced_same : {xs ys : List ℕ} → Respaced xs ys → length xs ≤ 1048576 → length ys ≤ 1048576 → (tails heads capacities minimums : ℕ)
    → (given_by xs tails heads capacities minimums ≡ given_by ys tails heads capacities minimums) × (arcs_of (lines xs) ≡ arcs_of (lines ys))
unfolding given_by
respaced_same {xs} {ys} r h k tails heads capacities minimums =
    let (judged, arcs) = same_judged (lines xs) (lines ys) (respaced_fields r) in
    let after = same_after (lines xs) (lines ys) arcs (judge (lines ys) fresh 1) tails heads capacities minimums in
    (rw (le-ltb 1048576 (length xs) h, le-ltb 1048576 (length ys) k, judged fresh 1) after, arcs)

-- So what reading the one promises, with what it leaves in the arc rows, reading the other does.
pub respaced_reads : {xs ys : List ℕ} → Respaced xs ys → length xs ≤ 1048576 → length ys ≤ 1048576
    → {tails heads capacities minimums tails' heads' capacities' minimums' : List ℕ} {given : Given}
    → Reads xs tails heads capacities minimums given tails' heads' capacities' minimums' → Reads ys tails heads capacities minimums given tails' heads' capacities' minimums'
respaced_reads {xs} {ys} r h k {tails} {heads} {capacities} {minimums} {given} promised =
    let (gives, arcs) = respaced_same r h k (length tails) (length heads) (length capacities) (length minimums) in
    record {
      gives = promised.gives ∙ gives;
      tails_hold = promised.tails_hold ∙ ap (λ (arcs : List Arc). row_after (values_of given) (tails_of arcs) tails) arcs;
      heads_hold = promised.heads_hold ∙ ap (λ (arcs : List Arc). row_after (values_of given) (heads_of arcs) heads) arcs;
      capacities_hold = promised.capacities_hold ∙ ap (λ (arcs : List Arc). row_after (values_of given) (capacities_of arcs) capacities) arcs;
      minimums_hold = promised.minimums_hold ∙ ap (λ (arcs : List Arc). row_after (values_of given) (minimums_of arcs) minimums) arcs;
    }
