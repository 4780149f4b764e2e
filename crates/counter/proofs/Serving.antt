-- What was written may be printed, whole in a row that is long enough; and for a text without minimums the promise leaves one result.
use Prim.Native.Nat.{ℕ}
use mathlib.Core.Path.{◌≡◌}
use mathlib.Core.List.{List}
use native.Mathlib.Omega.{arith}
use Rattle.pen.specs.Wrote.{Wrote}
use Rattle.pen.proofs.Writing.{wrote_whole, wrote_unique}
use Rattle.counter.specs.Desk.{DeskText, Served}
use Rattle.counter.proofs.Lengths.{desk_length}

-- The bytes written are some that the desk may print.
pub served : (text : List ℕ) {row bytes row' : List ℕ} {behind : ℕ} → DeskText text bytes → Wrote row 0 bytes row' behind → Served text row row' behind
served text {row} {bytes} {row'} {behind} may w =
    record { printed = bytes; may = may; wrote = w; whole = λ long. wrote_whole w (omega (arith, desk_length text bytes may)) }

-- Where two results print the same bytes, they are equal, and so are the rows that they leave.
pub served_once : {text row row' row'' : List ℕ} {r s : ℕ} (a : Served text row row' r) (b : Served text row row'' s) → a.printed ≡ b.printed → (row' ≡ row'') × (r ≡ s)
served_once {row = row} {row'} {row''} {r} {s} a b same = wrote_unique a.wrote (rw same b.wrote)
