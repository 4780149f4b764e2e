-- What the lines of a text say from a place on.
use Prim.Native.Nat.{ℕ, suc, ◌+◌, ◌-◌, ◌<◌, ◌≤◌}
use mathlib.Core.Path.{◌≡◌, refl, ap, ◌∙◌}
use mathlib.Core.Bool.{true, false}
use mathlib.Core.List.{List, [], ◌∷◌, ◌++◌, append_assoc, append-nil}
use native.Mathlib.Numerals.{add-one}
use native.Mathlib.Omega.{arith}
use lib.ListN.{length, get_or, set, take, drop, length-drop, drop_of_length-le}
use lib.Seq.{drop-cons, take-suc-set, drop-drop}
use borrow.Author.Tests.{lt-ltb, le-ltb}
use Rattle.std.specs.Prelude.{Some, None}
use Rattle.scan.specs.Parts.{LF, up_to, begins_with}
use Rattle.scan.specs.Numbers.{number_in}
use Rattle.wording.specs.Text.{flow_front}
use Rattle.wording.specs.Lines.{Said, flows, nothing, say_first, say_next, flows_said, behind_line, not_above, number_behind, first_number}

-- ---- the number that a line says

-- What a line says, by the tests of the code.
module _ (front line : List ℕ) (most : ℕ) where
  -- It begins otherwise.
  pub behind_other : begins_with front line ≡ false → number_behind front most line ≡ None
  unfolding number_behind
  behind_other e = rw e refl

  -- What stands behind is no number,
  pub behind_none : begins_with front line ≡ true → number_in (drop (length front) line) ≡ None → number_behind front most line ≡ None
  unfolding number_behind not_above
  behind_none e f = rw (e, f) refl

  -- or one that is too large,
  pub behind_above : (x : ℕ) → begins_with front line ≡ true → number_in (drop (length front) line) ≡ Some x → most < x → number_behind front most line ≡ None
  unfolding number_behind not_above
  behind_above x e f h = rw (e, f, lt-ltb most x h) refl

  -- or else the number.
  pub behind_value : (x : ℕ) → begins_with front line ≡ true → number_in (drop (length front) line) ≡ Some x → x ≤ most → number_behind front most line ≡ Some x
  unfolding number_behind not_above
  behind_value x e f h = rw (e, f, le-ltb most x h) refl

-- ---- the lines of a text from a place on

module _ (text : List ℕ) (at end : ℕ) (found : end ≡ at + up_to LF (drop at text)) where
  -- The first line stands from there to its LF,
  pub number_here : (front : List ℕ) (most : ℕ) → end < length text → first_number front most (drop at text) ≡ number_behind front most (take (end - at) (drop at text))
  unfolding first_number
  number_here front most h =
      let n : up_to LF (drop at text) ≡ end - at = omega arith in
      rw (lt-ltb (up_to LF (drop at text)) (length (drop at text)) (rw length-drop (omega arith)), n) refl

  -- or it has none;
  pub number_open : (front : List ℕ) (most : ℕ) → length text ≤ end → at ≤ length text → first_number front most (drop at text) ≡ None
  unfolding first_number
  number_open front most h a = rw (le-ltb (up_to LF (drop at text)) (length (drop at text)) (rw length-drop (omega arith))) refl

  -- behind its LF stands the rest.
  pub rest_here : behind_line (drop at text) ≡ drop (end + 1) text
  rest_here =
      let n : at + suc (up_to LF (drop at text)) ≡ end + 1 = omega arith in
      drop-drop (suc (up_to LF (drop at text))) at text ∙ ap (λ (n : ℕ). drop n text) n

-- Flows before, and what further lines say.
say_all : (first more : List ℕ) (rest : Said) → say_first first (say_first more rest) ≡ say_first (first ++ more) rest
unfolding say_first
say_all first more (flows rest) = rw append_assoc refl
say_all first more (nothing line) = refl

-- A row in whose first k places stand the flows that the lines so far said: what all lines say hangs on what those from the place on say.
module _ (tails heads capacities row : List ℕ) (k line : ℕ) (text : List ℕ) (at end : ℕ) (here : end ≡ at + up_to LF (drop at text)) (a : k < length tails) (b : k < length heads) (d : k < length capacities) where
  -- What the lines from there on say.
  abbrev from_here : Said
  from_here = flows_said (drop k tails) (drop k heads) (drop k capacities) line (drop at text)

  -- The line there is not one of the arc at k,
  pub say_stop : first_number (flow_front (get_or tails k 0) (get_or heads k 0)) (get_or capacities k 0) (drop at text) ≡ None → say_first (take k row) from_here ≡ nothing line
  unfolding flows_said say_next say_first
  say_stop e = rw (drop-cons tails k 0 a, drop-cons heads k 0 b, drop-cons capacities k 0 d, e) refl

  -- or it says its flow, which goes into the row.
  pub say_on : (flow : ℕ) → k < length row → first_number (flow_front (get_or tails k 0) (get_or heads k 0)) (get_or capacities k 0) (drop at text) ≡ Some flow
      → say_first (take k row) from_here ≡ say_first (take (k + 1) (set row k flow)) (flows_said (drop (k + 1) tails) (drop (k + 1) heads) (drop (k + 1) capacities) (line + 1) (drop (end + 1) text))
  unfolding flows_said say_next
  say_on flow r e =
      rw (drop-cons tails k 0 a, drop-cons heads k 0 b, drop-cons capacities k 0 d, e, rest_here text at end here, add-one k, add-one line, take-suc-set row k flow r)
      (say_all (take k row) (flow ∷ []) _)

module _ (tails heads capacities row : List ℕ) (line : ℕ) (text : List ℕ) (at : ℕ) (k : ℕ) (past : length tails ≤ k) where
  -- Behind the last arc's line there is another,
  pub say_more : at < length text → say_first (take k row) (flows_said (drop k tails) (drop k heads) (drop k capacities) line (drop at text)) ≡ nothing line
  unfolding flows_said say_first
  say_more h = rw (drop_of_length-le tails past, lt-ltb 0 (length (drop at text)) (rw length-drop (omega arith))) refl

  -- or the text ends.
  pub say_end : length text ≤ at → say_first (take k row) (flows_said (drop k tails) (drop k heads) (drop k capacities) line (drop at text)) ≡ flows (take k row)
  unfolding flows_said say_first
  say_end h = rw (drop_of_length-le tails past, le-ltb 0 (length (drop at text)) (rw length-drop (omega arith))) (ap flows (append-nil (take k row)))

-- With no flow before, what all lines say.
pub say_none : (said : Said) → said ≡ say_first [] said
unfolding say_first
say_none (flows row) = refl
say_none (nothing line) = refl
