-- Laws of a row with a new part: it is what a lent part that came back makes, the part is there, and the other parts are as they were.
use Prim.Native.Nat.{ℕ, ◌+◌, ◌-◌, ◌≤◌}
use mathlib.Core.Path.{◌≡◌, sym, ap, ◌∙◌}
use mathlib.Core.List.{List, ◌++◌, append_assoc}
use native.Mathlib.Omega.{arith}
use lib.ListN.{length, take, drop, length-append, length-drop}
use lib.Seq.{take-add, take-take, take_at, drop_at, drop-drop, take-append-le, length-take-le}
use borrow.Rule.Slice.PartMut.{put_mid, Post-is}
use Rattle.rows.specs.Row.{part}
use Rattle.parts.specs.Placed.{placed}

-- A part that was lent and came back stands in its place.
pub put_placed : (a e : ℕ) (row new : List ℕ) → a ≤ e → put_mid a (e - a) row new ≡ placed a e new row
put_placed a e row new ordered = ap (λ (l : List ℕ). take a row ++ (new ++ l)) (Post-is a e row ordered)

module _ (a e : ℕ) (row new : List ℕ) (ordered : a ≤ e) (within : e ≤ length row) (size : length new ≡ e - a) where
  -- What stands before the part, as long as its place says.
  front_long : length (take a row) ≡ a
  front_long = length-take-le a row (omega arith)

  -- The row is as long as before.
  pub placed_length : length (placed a e new row) ≡ length row
  placed_length = simp length-append (omega (arith, front_long, length-drop e row))

  -- From a on it has the part, and then what was there.
  placed_from : drop a (placed a e new row) ≡ new ++ drop e row
  placed_from = drop_at (take a row) (new ++ drop e row) a front_long

  -- The part is there.
  pub placed_part : part a e (placed a e new row) ≡ new
  placed_part = ap (take (e - a)) placed_from ∙ take_at new (drop e row) (e - a) size

  -- A part before it is as it was,
  pub placed_before : (b c : ℕ) → b ≤ c → c ≤ a → part b c (placed a e new row) ≡ part b c row
  placed_before b c order early = sym (cut (placed a e new row) (omega (arith, placed_length))) ∙ ap (λ (l : List ℕ). take (c - b) (drop b l)) same ∙ cut row (omega arith)
    where
      same : take c (placed a e new row) ≡ take c row
      same = take-append-le c (take a row) (new ++ drop e row) (omega (arith, front_long)) ∙ take-take c a row early

      cut : (l : List ℕ) → c ≤ length l → take (c - b) (drop b (take c l)) ≡ part b c l
      cut l inside =
          let all : b + (c - b) ≡ c = omega arith in
          ap (λ (k : ℕ). take (c - b) (drop b (take k l))) (sym all)
          ∙ ap (λ (x : List ℕ). take (c - b) (drop b x)) (take-add b (c - b) l)
          ∙ ap (take (c - b)) (drop_at (take b l) (take (c - b) (drop b l)) b (length-take-le b l (omega arith)))
          ∙ take-take (c - b) (c - b) (drop b l) (omega arith)

  -- and so is one after it.
  pub placed_after : (b c : ℕ) → e ≤ b → part b c (placed a e new row) ≡ part b c row
  placed_after b c late = ap (take (c - b)) (behind b late)
    where
      behind : (b : ℕ) → e ≤ b → drop b (placed a e new row) ≡ drop b row
      behind b late =
          let rest : e + (b - e) ≡ b = omega arith in
          let seam : drop e (placed a e new row) ≡ drop e row =
          ap (drop e) (sym (append_assoc (take a row) new (drop e row)))
          ∙ drop_at (take a row ++ new) (drop e row) e (length-append (take a row) new ∙ omega (arith, front_long)) in
          ap (λ (k : ℕ). drop k (placed a e new row)) (sym rest) ∙ sym (drop-drop (b - e) e (placed a e new row)) ∙ ap (drop (b - e)) seam ∙ drop-drop (b - e) e row ∙ ap (λ (k : ℕ). drop k row) rest
