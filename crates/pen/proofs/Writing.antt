-- Bytes written one after the other.
use Prim.Native.Nat.{ℕ, suc, ◌+◌, ◌<◌, ◌≤◌, min}
use mathlib.Core.Path.{◌≡◌, refl, sym, ap, ◌∙◌}
use mathlib.Core.List.{List, [], ◌∷◌, ◌++◌, append_assoc, append-nil}
use native.Mathlib.Numerals.{add-one}
use native.Mathlib.Omega.{arith}
use native.Mathlib.Decide.{dec_le}
use lib.ListN.{length, get_or, take, drop, length-append}
use lib.Seq.{sets, length-sets, set_out, drop-cons, sets-eq, take_at}
use Rattle.rows.proofs.Storing.{sets_append}
use Rattle.pen.specs.Wrote.{Wrote}

-- Past its end a row is not written.
sets_out : (row : List ℕ) (at : ℕ) (xs : List ℕ) → length row ≤ at → sets row at xs ≡ row
sets_out row at [] h = refl
sets_out row at (x ∷ xs) h = rw (set_out row at x h) (sets_out row (suc at) xs (omega arith))

-- Bytes written behind others are written with them at once, also where the place behind the first is the row's end.
sets_then : (row : List ℕ) (at : ℕ) (xs ys : List ℕ) (r : ℕ) → r ≡ min (at + length xs) (length row)
    → sets (sets row at xs) r ys ≡ sets row at (xs ++ ys)
sets_then row at xs ys r p = by_room (dec_le (at + length xs) (length row))
  where
    by_room : Dec (at + length xs ≤ length row) → sets (sets row at xs) r ys ≡ sets row at (xs ++ ys)
    by_room (yes h) = let e : r ≡ at + length xs = omega arith in rw e (sym (sets_append row xs ys at))
    by_room (no h) =
        sets_out (sets row at xs) r ys (rw length-sets (omega arith))
        ∙ sym (sets_out (sets row at xs) (at + length xs) ys (rw length-sets (omega arith)))
        ∙ sym (sets_append row xs ys at)

module _ {row : List ℕ} {at : ℕ} where
  -- Nothing is written.
  pub wrote_nothing : at ≤ length row → Wrote row at [] row at
  wrote_nothing h = record { holds = refl; place = omega arith }

  -- The row is as long as before,
  pub wrote_length : {xs row' : List ℕ} {r : ℕ} → Wrote row at xs row' r → length row' ≡ length row
  wrote_length {xs} a = ap length a.holds ∙ length-sets row at xs

  -- and what was written ends within it.
  pub wrote_within : {xs row' : List ℕ} {r : ℕ} → Wrote row at xs row' r → r ≤ length row'
  wrote_within a = omega (arith, wrote_length a, a.place)

  -- Bytes, and more bytes behind them.
  pub wrote_then : {xs ys row' row'' : List ℕ} {r s : ℕ} → Wrote row at xs row' r → Wrote row' r ys row'' s → Wrote row at (xs ++ ys) row'' s
  wrote_then {xs} {ys} {row'} {row''} {r} {s} a b =
      let same : length row' ≡ length row = wrote_length a in
      let p = a.place in
      let q = b.place in
      record {
        holds = b.holds ∙ ap (λ (l : List ℕ). sets l r ys) a.holds ∙ sets_then row at xs ys r p;
        place = rw length-append (omega arith);
      }

-- What was written into a row that is long enough: the bytes, and what stood behind them.
pub wrote_front : {row bytes row' : List ℕ} {behind : ℕ} → Wrote row 0 bytes row' behind → length bytes ≤ length row
    → (behind ≡ length bytes) × (row' ≡ bytes ++ drop (length bytes) row)
wrote_front {row} {bytes} {row'} {behind} w fits =
    let place : length bytes ≡ 0 + length bytes = omega arith in
    (omega (arith, w.place), w.holds ∙ sets-eq bytes row 0 (omega arith) ∙ rw (← place) refl)

-- So the bytes stand whole before the place behind them.
pub wrote_whole : {row bytes row' : List ℕ} {behind : ℕ} → Wrote row 0 bytes row' behind → length bytes ≤ length row → take behind row' ≡ bytes
wrote_whole {row} {bytes} {row'} {behind} w fits =
    let (end, held) = wrote_front w fits in
    rw (end, held) (take_at bytes (drop (length bytes) row) (length bytes) refl)

-- Of the bytes `whole` all but `rest` are written.
pub record Partly (row : List ℕ) (at : ℕ) (whole rest row' : List ℕ) (r : ℕ) : Type 0 where
  pub done : List ℕ
  pub wrote : Wrote row at done row' r
  pub left : whole ≡ done ++ rest

module _ {row : List ℕ} {at : ℕ} {whole : List ℕ} where
  -- The next ones are written,
  pub partly_more : {next rest all row' row'' : List ℕ} {r s : ℕ} → Partly row at whole all row' r → Wrote row' r next row'' s → all ≡ next ++ rest → Partly row at whole rest row'' s
  partly_more {next} {rest} p w e =
      record { done = p.done ++ next; wrote = wrote_then p.wrote w; left = p.left ∙ rw (e, ← append_assoc p.done next rest) refl }

  -- and at last none are left.
  pub partly_all : {rest row' : List ℕ} {r : ℕ} → rest ≡ [] → Partly row at whole rest row' r → Wrote row at whole row' r
  partly_all {row' = row'} {r} e p =
      let f : whole ≡ p.done = p.left ∙ rw (e, append-nil p.done) refl in
      rw f p.wrote

-- Bytes from a place on: the byte there, and those behind it.
pub byte_here : (xs : List ℕ) (i : ℕ) → i < length xs → drop i xs ≡ (get_or xs i 0 ∷ []) ++ drop (i + 1) xs
byte_here xs i h = rw (add-one, drop-cons xs i 0 h) refl

-- What the promise of writing leaves open: nothing. Two rows written so are equal, and so are the places behind.
pub wrote_unique : {row : List ℕ} {at : ℕ} {bytes after after_too : List ℕ} {behind behind_too : ℕ}
    → Wrote row at bytes after behind → Wrote row at bytes after_too behind_too → (after ≡ after_too) × (behind ≡ behind_too)
wrote_unique w v = (w.holds ∙ sym v.holds, w.place ∙ sym v.place)
