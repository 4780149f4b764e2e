-- The lines of a solution text as a rota maker's: what they are, and the amounts that they say.
use Prim.Native.Nat.{ℕ, zero, suc, ◌+◌, ◌<◌, ◌≤◌}
use mathlib.Core.Path.{◌≡◌, refl, sym, ap, ◌∙◌}
use mathlib.Core.Bool.{Bool, true, false, cond, not}
use mathlib.Core.List.{List, [], ◌∷◌, ◌++◌, append_assoc, append-nil}
use native.Mathlib.Omega.{arith}
use lib.Dec.{eqb, leb}
use lib.ListN.{length, get_or}
use borrow.Author.Tests.{leb-true, ne_eqb}
use Rattle.std.specs.Prelude.{Some, Ok}
use Rattle.rows.specs.Sum.{sum, only}
use Rattle.rows.proofs.Sums.{both_true}
use Rattle.table.specs.Ascii.{bytes}
use Rattle.scan.specs.Parts.{in_front, parts, lines, fields, is_separator, behind, LF, run, up_to, begins_with}
use Rattle.scan.specs.Numbers.{is_digit, all_digits, number_form, number_in}
use Rattle.scan.specs.Fields.{is_letter}
use Rattle.pen.specs.Printed.{printed}
use Rattle.wording.specs.Text.{line_of, value_front, flow_front, flow_lines}
use Rattle.wording.proofs.Bytes.{Without, without_append, digits_without}
use Rattle.wording.proofs.Numbers.{printed_says, printed_digits}
use Rattle.wording.proofs.Speaking.{Fitting, front_one_line}
use Rattle.amounts.specs.declared.Amount.{Amount}
use Rattle.amounts.specs.declared.Kind.TheVariants.{ValueLine, FlowLine}
use Rattle.amounts.specs.Lines.{value_from, value_of, flow_from, flow_of, kind_of, step_of, end_of, onwards, judge, amount_in, amounts_of}
use Rattle.sharing.specs.Full.{is_pair, sum_where, pair_sum}

-- ---- lines and fields

-- A byte in front of the first part, by whether it is the separator.
part_by : (t : Bool) (x : ℕ) (xs : List ℕ) (ps rest : List (List ℕ)) (u l : ℕ) → cond (not t) (suc u) 0 ≡ suc l → (u ≡ l → ps ≡ xs ∷ rest)
    → cond t ([] ∷ ps) (in_front x ps) ≡ (x ∷ xs) ∷ rest
unfolding in_front
part_by true x xs ps rest u l e more = absurd (omega arith)
part_by false x xs ps rest u l e more = rw (more (omega arith)) refl

-- Bytes without a separator, before bytes whose first part is empty, are the first part.
parts_front : (sep : ℕ) (last : List (List ℕ)) (xs zs : List ℕ) (rest : List (List ℕ)) → Without sep xs → parts sep last zs ≡ [] ∷ rest → parts sep last (xs ++ zs) ≡ xs ∷ rest
unfolding parts run
parts_front sep last [] zs rest e f = f
parts_front sep last (x ∷ xs) zs rest e f =
    part_by (eqb x sep) x xs (parts sep last (xs ++ zs)) rest (up_to sep xs) (length xs) e (λ same. parts_front sep last xs zs rest same f)

-- A line stands before the others.
pub lines_next : (front : List ℕ) (number : ℕ) (rest : List ℕ) → Without LF front → number ≤ 4294967295 → lines (line_of front number ++ rest) ≡ (front ++ printed number) ∷ lines rest
unfolding parts
lines_next front number rest e h =
    let whole : line_of front number ++ rest ≡ (front ++ printed number) ++ (LF ∷ rest) = simp append_assoc in
    let one_line = without_append LF front (printed number) e (digits_without LF (printed number) (omega arith) (printed_digits number h)) in
    ap lines whole ∙ parts_front LF [] (front ++ printed number) (LF ∷ rest) (lines rest) one_line refl

-- Bytes that are no separators.
abbrev Clear : List ℕ → Type 0
Clear xs = (k : ℕ) → k < length xs → is_separator (get_or xs k 0) ≡ false

-- Digits are none.
digits_clear : (xs : List ℕ) → all_digits xs ≡ true → Clear xs
unfolding all_digits is_digit is_separator
digits_clear [] e k l = absurd (omega arith)
digits_clear (x ∷ xs) e zero l =
    let low : 48 ≤ x = leb-true _ _ (both_true (leb 48 x) (leb x 57) (both_true (is_digit x) (all_digits xs) e).0).0 in
    rw (ne_eqb x 32 (λ same. omega arith), ne_eqb x 9 (λ same. omega arith)) refl
digits_clear (x ∷ xs) e (suc k) l = digits_clear xs (both_true (is_digit x) (all_digits xs) e).1 k (omega arith)

-- Such bytes, before bytes whose first field is empty, are the first field.
fields_front : (xs zs : List ℕ) (rest : List (List ℕ)) → Clear xs → fields zs ≡ [] ∷ rest → fields (xs ++ zs) ≡ xs ∷ rest
unfolding fields in_front
fields_front [] zs rest e f = f
fields_front (x ∷ xs) zs rest e f = rw (e 0 (omega arith), fields_front xs zs rest (λ k l. e (suc k) (omega arith)) f) refl

-- The field before a blank, behind which another stands,
fields_next : (xs ys : List ℕ) (field : List ℕ) (rest : List (List ℕ)) → Clear xs → fields ys ≡ field ∷ rest → 1 ≤ length field → fields (xs ++ (32 ∷ ys)) ≡ xs ∷ (field ∷ rest)
unfolding fields is_separator behind
fields_next xs ys field rest e f some = fields_front xs (32 ∷ ys) (field ∷ rest) e (rw f (ap (λ (l : List (List ℕ)). [] ∷ l) (behind_some field some)))
  where
    behind_some : (field : List ℕ) → 1 ≤ length field → behind (field ∷ rest) ≡ field ∷ rest
    behind_some [] h = absurd (omega arith)
    behind_some (b ∷ field) h = refl

-- and the last.
fields_last : (xs : List ℕ) → Clear xs → fields xs ≡ xs ∷ []
unfolding fields
fields_last xs e = ap fields (sym (append-nil xs)) ∙ fields_front xs [] [] e refl

-- What says a number has a byte.
says_some : (field : List ℕ) (n : ℕ) → number_in field ≡ Some n → 1 ≤ length field
unfolding number_in number_form
says_some [] n e = absurd (let z : ◌≡◌ {A = ℕ} 0 1 = cc in omega arith)
says_some (b ∷ field) n e = omega arith

-- A printed number is clear and has a digit.
number_clear : (n : ℕ) → n ≤ 4294967295 → Clear (printed n)
number_clear n h = digits_clear (printed n) (printed_digits n h)

number_some : (n : ℕ) → n ≤ 4294967295 → 1 ≤ length (printed n)
number_some n h = says_some (printed n) n (printed_says n h)

-- One byte is clear.
byte_clear : (b : ℕ) → is_separator b ≡ false → Clear (b ∷ [])
byte_clear b e zero l = e
byte_clear b e (suc k) l = absurd (omega arith)

-- ---- the lines of a solution text

-- The fields of the value's line.
value_fields : (v : ℕ) → v ≤ 4294967295 → fields (value_front ++ printed v) ≡ bytes "s" ∷ (printed v ∷ [])
unfolding is_separator
value_fields v h = fields_next (bytes "s") (printed v) (printed v) [] (byte_clear 115 refl) (fields_last (printed v) (number_clear v h)) (number_some v h)

-- It is a line of a value.
pub kind_value : (v : ℕ) → v ≤ 4294967295 → kind_of (value_front ++ printed v) ≡ ValueLine v
unfolding kind_of value_of value_from is_letter begins_with
kind_value v h = rw (value_fields v h, printed_says v h) refl

-- The fields of an arc's line.
flow_fields : (t h f : ℕ) → t ≤ 4294967295 → h ≤ 4294967295 → f ≤ 4294967295 → fields (flow_front t h ++ printed f) ≡ bytes "f" ∷ (printed t ∷ (printed h ∷ (printed f ∷ [])))
unfolding flow_front is_separator
flow_fields t h f a b c =
    let whole : flow_front t h ++ printed f ≡ bytes "f" ++ (32 ∷ (printed t ++ (32 ∷ (printed h ++ (32 ∷ printed f))))) = simp append_assoc in
    let third = fields_next (printed h) (printed f) (printed f) [] (number_clear h b) (fields_last (printed f) (number_clear f c)) (number_some f c) in
    let second = fields_next (printed t) (printed h ++ (32 ∷ printed f)) (printed h) (printed f ∷ []) (number_clear t a) third (number_some h b) in
    ap fields whole ∙ fields_next (bytes "f") (printed t ++ (32 ∷ (printed h ++ (32 ∷ printed f)))) (printed t) (printed h ∷ (printed f ∷ [])) (byte_clear 102 refl) second (number_some t a)

-- It is a line of a flow.
pub kind_flow : (t h f : ℕ) → t ≤ 4294967295 → h ≤ 4294967295 → f ≤ 4294967295 → kind_of (flow_front t h ++ printed f) ≡ FlowLine (record { tail = t; head = h; flow = f })
unfolding kind_of flow_of flow_from is_letter begins_with flow_front
kind_flow t h f a b c = rw (flow_fields t h f a b c, printed_says t a, printed_says h b, printed_says f c) refl

-- The amounts of arcs with these flows.
pub arc_amounts : (tails heads flow : List ℕ) → List Amount
arc_amounts [] heads flow = []
arc_amounts (t ∷ ts) [] flow = []
arc_amounts (t ∷ ts) (h ∷ hs) [] = []
arc_amounts (t ∷ ts) (h ∷ hs) (f ∷ fs) = record { tail = t; head = h; flow = f } ∷ arc_amounts ts hs fs

-- The lines of the arcs are of their form,
pub judge_flows : (tails heads flow : List ℕ) (v place : ℕ) → Fitting tails → Fitting heads → Fitting flow → judge (lines (flow_lines tails heads flow)) (Some v) place ≡ Ok v
unfolding judge onwards step_of end_of flow_lines parts
judge_flows [] heads flow v place ft fh ff = refl
judge_flows (t ∷ ts) [] flow v place ft fh ff = refl
judge_flows (t ∷ ts) (h ∷ hs) [] v place ft fh ff = refl
judge_flows (t ∷ ts) (h ∷ hs) (f ∷ fs) v place ft fh ff =
    let a = ft 0 (omega arith) in
    let b = fh 0 (omega arith) in
    let d = ff 0 (omega arith) in
    rw (lines_next (flow_front t h) f (flow_lines ts hs fs) (front_one_line t h a b) d, kind_flow t h f a b d)
    (judge_flows ts hs fs v (suc place) (λ k l. ft (suc k) (omega arith)) (λ k l. fh (suc k) (omega arith)) (λ k l. ff (suc k) (omega arith)))

-- and have these amounts.
pub amounts_flows : (tails heads flow : List ℕ) → Fitting tails → Fitting heads → Fitting flow → amounts_of (lines (flow_lines tails heads flow)) ≡ arc_amounts tails heads flow
unfolding amounts_of amount_in flow_lines parts arc_amounts
amounts_flows [] heads flow ft fh ff = refl
amounts_flows (t ∷ ts) [] flow ft fh ff = refl
amounts_flows (t ∷ ts) (h ∷ hs) [] ft fh ff = refl
amounts_flows (t ∷ ts) (h ∷ hs) (f ∷ fs) ft fh ff =
    let a = ft 0 (omega arith) in
    let b = fh 0 (omega arith) in
    let d = ff 0 (omega arith) in
    rw (
      lines_next (flow_front t h) f (flow_lines ts hs fs) (front_one_line t h a b) d,
      kind_flow t h f a b d,
      amounts_flows ts hs fs (λ k l. ft (suc k) (omega arith)) (λ k l. fh (suc k) (omega arith)) (λ k l. ff (suc k) (omega arith)),
    ) refl

-- A sum, its first term first.
sum_first : (n : ℕ) (f : ℕ → ℕ) → sum (suc n) f ≡ f 0 + sum n (λ k. f (suc k))
unfolding sum
sum_first zero f = omega arith
sum_first (suc n) f = omega (arith, sum_first n f)

-- The sums of these amounts are those of the arcs.
pub amounts_pairs : (tails heads flow : List ℕ) (a b : ℕ) → length heads ≡ length tails → length flow ≡ length tails
    → sum (length tails) (λ k. only (is_pair a b (get_or tails k 0) (get_or heads k 0)) (get_or flow k 0)) ≡ pair_sum (arc_amounts tails heads flow) a b
unfolding sum_where arc_amounts sum
amounts_pairs [] heads flow a b p q = refl
amounts_pairs (t ∷ ts) [] flow a b p q = absurd (omega arith)
amounts_pairs (t ∷ ts) (h ∷ hs) [] a b p q = absurd (omega arith)
amounts_pairs (t ∷ ts) (h ∷ hs) (f ∷ fs) a b p q =
    sum_first (length ts) (λ k. only (is_pair a b (get_or (t ∷ ts) k 0) (get_or (h ∷ hs) k 0)) (get_or (f ∷ fs) k 0))
    ∙ ap (λ (x : ℕ). only (is_pair a b t h) f + x) (amounts_pairs ts hs fs a b (omega arith) (omega arith))
