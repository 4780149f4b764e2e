-- A text says some value and some row within the capacities exactly if it is their text.
use Prim.Native.Nat.{ℕ, zero, suc, ◌*◌, ◌<◌, ◌≤◌}
use mathlib.Core.Path.{◌≡◌, refl, sym, ap, ◌∙◌}
use mathlib.Core.Bool.{Bool, true, cond}
use mathlib.Core.List.{List, [], ◌∷◌, ◌++◌, append_assoc}
use native.Mathlib.Omega.{arith}
use lib.Dec.{ltb}
use lib.ListN.{length, get_or, take, drop, length-append}
use lib.Seq.{take_at, drop_at}
use borrow.Author.Tests.{lt-ltb, ltb-true, ltb-false}
use Rattle.std.specs.Prelude.{Option, Some, None}
use Rattle.rows.proofs.Sums.{by_test}
use Rattle.table.specs.Ascii.{bytes}
use Rattle.table.specs.Table.{Table, arcs}
use Rattle.table.specs.Accepted.{Accepted}
use Rattle.scan.specs.Parts.{LF, run, up_to, begins_with}
use Rattle.scan.specs.Numbers.{number_in}
use Rattle.pen.specs.Printed.{printed}
use Rattle.pen.proofs.Digits.{digits_most}
use Rattle.wording.specs.Text.{line_of, value_front, flow_front, flow_lines, solution_text, most_value, Within, IsSolution}
use Rattle.wording.specs.Lines.{first_line, behind_line, is_ended, not_above, number_behind, first_number, Said, flows, nothing, say_first, say_next, flows_said, words, words_of, words_from, text_words}
use Rattle.wording.proofs.Bytes.{Without, up_to_found, without_append, digits_without, begins_front, begins_split, up_to_split}
use Rattle.wording.proofs.Numbers.{printed_says, printed_digits, says_printed}
use Rattle.wording.proofs.Saying.{behind_value}
use Rattle.wording.proofs.Lengths.{line_bytes, text_bytes}

-- ---- a line

-- A line as bytes without LF, LF, and the rest.
line_parts : (front : List ℕ) (number : ℕ) (rest : List ℕ) → line_of front number ++ rest ≡ (front ++ printed number) ++ (LF ∷ rest)
line_parts front number rest = simp append_assoc

-- A line whose beginning has no LF.
module _ (front : List ℕ) (one_line : Without LF front) (number : ℕ) (fits : number ≤ 4294967295) (rest : List ℕ) where
  -- It ends at its LF,
  line_end : up_to LF (line_of front number ++ rest) ≡ length (front ++ printed number)
  line_end =
      rw (line_parts front number rest)
      (up_to_found LF (front ++ printed number) rest (without_append LF front (printed number) one_line (digits_without LF (printed number) (omega arith) (printed_digits number fits))))

  -- behind it stands the rest,
  pub line_behind : behind_line (line_of front number ++ rest) ≡ rest
  line_behind = rw (line_end, line_parts front number rest) (drop_past (front ++ printed number) LF rest)
    where
      drop_past : (xs : List ℕ) (b : ℕ) (ys : List ℕ) → drop (suc (length xs)) (xs ++ (b ∷ ys)) ≡ ys
      drop_past [] b ys = refl
      drop_past (x ∷ xs) b ys = drop_past xs b ys

  -- its bytes before the LF are its beginning and the number,
  pub line_first : first_line (line_of front number ++ rest) ≡ front ++ printed number
  line_first =
      let line = front ++ printed number in
      rw (line_end, line_parts front number rest) (take_at line (LF ∷ rest) (length line) refl)

  -- it has its LF,
  pub line_ended : is_ended (line_of front number ++ rest) ≡ true
  line_ended =
      let line = front ++ printed number in
      let long : length line < length (line_of front number ++ rest) = rw (line_parts front number rest, length-append line (LF ∷ rest)) (omega arith) in
      rw line_end (lt-ltb (length line) (length (line_of front number ++ rest)) long)

  -- and it says the number.
  pub line_says : (most : ℕ) → number ≤ most → first_number front most (line_of front number ++ rest) ≡ Some number
  unfolding first_number
  line_says most h =
      let line = front ++ printed number in
      let behind : drop (length front) line ≡ printed number = drop_at front (printed number) (length front) refl in
      rw (line_ended, line_first) (behind_value front line most number (begins_front front (printed number)) (ap number_in behind ∙ printed_says number fits) h)

-- A number that is not above `most`, of a number.
not_above_lem : (most : ℕ) (found : Option ℕ) (x : ℕ) → not_above most found ≡ Some x → (found ≡ Some x) × (x ≤ most)
unfolding not_above
not_above_lem most None x e = absurd (let z : ◌≡◌ {A = ℕ} 0 1 = cc in omega arith)
not_above_lem most (Some y) x e = by_test (ltb most y)
    (λ h. absurd (let z : ◌≡◌ {A = ℕ} 0 1 = cc in omega arith))
    (λ h. let p : Some y ≡ Some x = sym (ap (λ (t : Bool). cond t None (Some y)) h) ∙ e in
    let same : y ≡ x = cc in
    (p, omega (arith, ltb-false most y h)))

-- What a line says, it is.
behind_is : (front : List ℕ) (most : ℕ) (line : List ℕ) (x : ℕ) → number_behind front most line ≡ Some x → (line ≡ front ++ printed x) × (x ≤ most)
unfolding number_behind
behind_is front most line x e = by_test (begins_with front line)
    (λ b. let p : not_above most (number_in (drop (length front) line)) ≡ Some x = sym (ap (λ (t : Bool). cond t (not_above most (number_in (drop (length front) line))) None) b) ∙ e in
    let (said, h) = not_above_lem most _ x p in
    (begins_split front line b ∙ ap (λ (l : List ℕ). front ++ l) (says_printed _ x said).0, h))
    (λ b. absurd (let p : None ≡ Some x = sym (ap (λ (t : Bool). cond t (not_above most (number_in (drop (length front) line))) None) b) ∙ e in
    let z : ◌≡◌ {A = ℕ} 0 1 = cc in omega arith))

-- Bytes whose first line says a number begin with that line.
pub says_line : (front : List ℕ) (most : ℕ) (rest : List ℕ) (x : ℕ) → first_number front most rest ≡ Some x → (rest ≡ line_of front x ++ behind_line rest) × (x ≤ most)
unfolding first_number
says_line front most rest x e = by_test (is_ended rest)
    (λ b. let p : number_behind front most (first_line rest) ≡ Some x = sym (ap (λ (t : Bool). cond t (number_behind front most (first_line rest)) None) b) ∙ e in
    let (line, h) = behind_is front most (first_line rest) x p in
    (up_to_split LF rest (ltb-true _ _ b) ∙ ap (λ (l : List ℕ). l ++ (LF ∷ behind_line rest)) line ∙ sym (line_parts front x (behind_line rest)), h))
    (λ b. absurd (let p : None ≡ Some x = sym (ap (λ (t : Bool). cond t (number_behind front most (first_line rest)) None) b) ∙ e in
    let z : ◌≡◌ {A = ℕ} 0 1 = cc in omega arith))

-- ---- the lines of the arcs

-- What a front is made of has no LF.
pub front_one_line : (tail head : ℕ) → tail ≤ 4294967295 → head ≤ 4294967295 → Without LF (flow_front tail head)
unfolding flow_front run
front_one_line tail head a b =
    let digits : (n : ℕ) → n ≤ 4294967295 → Without LF (printed n) = λ n h. digits_without LF (printed n) (omega arith) (printed_digits n h) in
    let second = printed head ++ bytes " " in
    let first = printed tail ++ (bytes " " ++ second) in
    without_append LF (bytes "f ") first refl
    (without_append LF (printed tail) (bytes " " ++ second) (digits tail a)
    (without_append LF (bytes " ") second refl
    (without_append LF (printed head) (bytes " ") (digits head b) refl)))

-- Every number of a row fits a field.
abbrev pub Fitting : List ℕ → Type 0
Fitting row = (k : ℕ) → k < length row → get_or row k 0 ≤ 4294967295

-- A flow in front of flows.
said_first : (f : ℕ) (fs : List ℕ) (line : ℕ) → say_next (Some f) line (flows fs) ≡ flows (f ∷ fs)
unfolding say_next say_first
said_first f fs line = refl

-- The lines of arcs with flows within the capacities say these flows.
pub lines_say : (tails heads capacities flow : List ℕ) (line : ℕ) → length heads ≡ length tails → length capacities ≡ length tails → length tails ≤ length flow
    → Fitting tails → Fitting heads → Fitting capacities → Within capacities flow
    → flows_said tails heads capacities line (flow_lines tails heads flow) ≡ flows (take (length tails) flow)
unfolding flows_said flow_lines
lines_say [] heads capacities flow line a b d ft fh fc within = refl
lines_say (t ∷ ts) [] capacities flow line a b d ft fh fc within = absurd (omega arith)
lines_say (t ∷ ts) (h ∷ hs) [] flow line a b d ft fh fc within = absurd (omega arith)
lines_say (t ∷ ts) (h ∷ hs) (c ∷ cs) [] line a b d ft fh fc within = absurd (omega arith)
lines_say (t ∷ ts) (h ∷ hs) (c ∷ cs) (f ∷ fs) line a b d ft fh fc within =
    let one_line = front_one_line t h (ft 0 (omega arith)) (fh 0 (omega arith)) in
    let fits = fc 0 (omega arith) in
    let below = within 0 (omega arith) in
    let further = lines_say ts hs cs fs (suc line) (omega arith) (omega arith) (omega arith) (λ k l. ft (suc k) (omega arith)) (λ k l. fh (suc k) (omega arith)) (λ k l. fc (suc k) (omega arith)) (λ k l. within (suc k) (omega arith)) in
    rw (line_says (flow_front t h) one_line f (omega arith) (flow_lines ts hs fs) c below, line_behind (flow_front t h) one_line f (omega arith) (flow_lines ts hs fs), further) (said_first f (take (length ts) fs) line)

-- A flow within its capacity in front of others.
pub first_within : (f c : ℕ) (fs cs : List ℕ) → f ≤ c → Within cs fs → Within (c ∷ cs) (f ∷ fs)
first_within f c fs cs h more zero l = h
first_within f c fs cs h more (suc k) l = more k (omega arith)

-- What the lines said, and what the bytes then were.
record Spoken (tails heads capacities rest row : List ℕ) : Type 0 where
  pub long : length row ≡ length tails
  pub within : Within capacities row
  pub is : rest ≡ flow_lines tails heads row

-- The next line's flow in front of the others.
next_is : (found : Option ℕ) (line : ℕ) (said : Said) (row : List ℕ) → say_next found line said ≡ flows row → (f : ℕ) × (fs : List ℕ) × (found ≡ Some f) × (said ≡ flows fs) × (row ≡ f ∷ fs)
unfolding say_next say_first
next_is None line said row e = absurd (let z : ◌≡◌ {A = ℕ} 0 1 = cc in omega arith)
next_is (Some f) line (nothing other) row e = absurd (let z : ◌≡◌ {A = ℕ} 0 1 = cc in omega arith)
next_is (Some f) line (flows fs) row e = let same : f ∷ fs ≡ row = cc in (f, fs, refl, refl, sym same)

-- No bytes are left.
none_left : (rest : List ℕ) (line : ℕ) (row : List ℕ) → cond (ltb 0 (length rest)) (nothing line) (flows []) ≡ flows row → (rest ≡ []) × (row ≡ [])
none_left [] line row e = let same : [] ≡ row = cc in (refl, sym same)
none_left (b ∷ rest) line row e =
    absurd
    (let p : nothing line ≡ flows row = sym (ap (λ (t : Bool). cond t (nothing line) (flows [])) (lt-ltb 0 (length (b ∷ rest)) (omega arith))) ∙ e in
    let z : ◌≡◌ {A = ℕ} 0 1 = cc in omega arith)

-- Bytes whose lines say flows are the lines of these flows, which are within the capacities.
says_lines : (tails heads capacities rest : List ℕ) (line : ℕ) (row : List ℕ) → length heads ≡ length tails → length capacities ≡ length tails
    → flows_said tails heads capacities line rest ≡ flows row → Spoken tails heads capacities rest row
unfolding flows_said flow_lines
says_lines [] heads capacities rest line row a b e =
    let (none, empty) = none_left rest line row e in
    record { long = ap length empty; within = λ k l. absurd (omega arith); is = none }
says_lines (t ∷ ts) [] capacities rest line row a b e = absurd (omega arith)
says_lines (t ∷ ts) (h ∷ hs) [] rest line row a b e = absurd (omega arith)
says_lines (t ∷ ts) (h ∷ hs) (c ∷ cs) rest line row a b e =
    let (f, fs, found, said, same) = next_is (first_number (flow_front t h) c rest) line (flows_said ts hs cs (suc line) (behind_line rest)) row e in
    let (is, below) = says_line (flow_front t h) c rest f found in
    let further = says_lines ts hs cs (behind_line rest) (suc line) fs (omega arith) (omega arith) said in
    rw same
    (record {
      long = ap suc further.long;
      within = first_within f c fs cs below further.within;
      is = is ∙ ap (λ (l : List ℕ). line_of (flow_front t h) f ++ l) further.is;
    })

-- ---- the whole text

-- A text that says a value and flows has the value's line, and its lines of arcs say the flows.
words_are : (found : Option ℕ) (said : Said) (value : ℕ) (row : List ℕ) → words_from found said ≡ words value row → (found ≡ Some value) × (said ≡ flows row)
unfolding words_from words_of
words_are None said value row e = absurd (let z : ◌≡◌ {A = ℕ} 0 1 = cc in omega arith)
words_are (Some x) (nothing line) value row e = absurd (let z : ◌≡◌ {A = ℕ} 0 1 = cc in omega arith)
words_are (Some x) (flows fs) value row e =
    let same : x ≡ value = cc in
    let row_same : fs ≡ row = cc in
    (ap Some same, ap flows row_same)

-- The rows of an accepted table fit fields.
pub ends_fit : (t : Table) → Accepted t → Fitting t.tails × Fitting t.heads × Fitting t.capacities
ends_fit t ok = (
  λ k l. omega (arith, ok.rows.ends.tail_node k l, ok.rows.ends.few_nodes),
  λ k l. omega (arith, ok.rows.ends.head_node k (omega (arith, ok.rows.ends.heads_long)), ok.rows.ends.few_nodes),
  λ k l. omega (arith, ok.rows.small k l),
)

-- What the text of a value and a row within the capacities says: them.
pub text_says : (t : Table) → Accepted t → (value : ℕ) (flow : List ℕ) → value ≤ most_value → arcs t ≤ length flow → Within t.capacities flow
    → text_words t.tails t.heads t.capacities (solution_text t value flow) ≡ words value (take (arcs t) flow)
unfolding text_words words_from words_of solution_text run
text_says t ok value flow most room within =
    let (ft, fh, fc) = ends_fit t ok in
    let lines = flow_lines t.tails t.heads flow in
    let m : length t.tails ≡ arcs t = sym ok.rows.capacities_long in
    let said = lines_say t.tails t.heads t.capacities flow 2 ok.rows.ends.heads_long ok.rows.capacities_long (omega arith) ft fh fc within in
    rw (line_says value_front refl value (omega arith) lines most_value most, line_behind value_front refl value (omega arith) lines, said, m) refl

-- A text that says a value and a row is theirs, and the row is within the capacities.
pub says_text : (t : Table) → Accepted t → (text : List ℕ) (value : ℕ) (row : List ℕ) → text_words t.tails t.heads t.capacities text ≡ words value row → IsSolution t text value row
unfolding text_words solution_text
says_text t ok text value row e =
    let (first, more) = words_are _ _ value row e in
    let (is, fits) = says_line value_front most_value text value first in
    let spoken = says_lines t.tails t.heads t.capacities (behind_line text) 2 row ok.rows.ends.heads_long ok.rows.capacities_long more in
    record {
      value_fits = fits;
      long = spoken.long ∙ sym ok.rows.capacities_long;
      within = spoken.within;
      is = is ∙ ap (λ (l : List ℕ). line_of value_front value ++ l) spoken.is;
    }

-- The lines of arcs have at most 65 bytes each.
lines_short : (tails heads flow : List ℕ) → length (flow_lines tails heads flow) ≤ 65 * length tails
unfolding flow_lines
lines_short [] heads flow = omega arith
lines_short (t ∷ ts) [] flow = omega arith
lines_short (t ∷ ts) (h ∷ hs) [] = omega arith
lines_short (t ∷ ts) (h ∷ hs) (f ∷ fs) =
    let here = line_bytes t h f in
    rw length-append (omega (arith, digits_most 20 t, digits_most 20 h, digits_most 20 f, lines_short ts hs fs))

-- So no solution text of an accepted table is LONG.
pub text_short : (t : Table) → Accepted t → (value : ℕ) (flow : List ℕ) → length (solution_text t value flow) ≤ 1048576
text_short t ok value flow =
    omega (arith, text_bytes t value flow, digits_most 20 value, lines_short t.tails t.heads flow, ok.rows.ends.few_arcs)

-- What stands behind the flows of a row is not written.
lines_front : (tails heads row rest : List ℕ) → length row ≡ length tails → flow_lines tails heads (row ++ rest) ≡ flow_lines tails heads row
unfolding flow_lines
lines_front [] heads row rest long = refl
lines_front (t ∷ ts) [] row rest long = refl
lines_front (t ∷ ts) (h ∷ hs) [] rest long = absurd (omega arith)
lines_front (t ∷ ts) (h ∷ hs) (f ∷ fs) rest long = ap (λ (l : List ℕ). line_of (flow_front t h) f ++ l) (lines_front ts hs fs rest (omega arith))

-- So it is no part of the text.
pub text_front : (t : Table) (value : ℕ) (row rest : List ℕ) → length row ≡ length t.tails → solution_text t value (row ++ rest) ≡ solution_text t value row
unfolding solution_text
text_front t value row rest long = ap (λ (l : List ℕ). line_of value_front value ++ l) (lines_front t.tails t.heads row rest long)
