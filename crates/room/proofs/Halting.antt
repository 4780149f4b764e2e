-- The work row of the run that stops: cleared, and behind its need as it was.
use Prim.Native.Nat.{ℕ, ◌+◌}
use native.Mathlib.Omega.{arith}
use mathlib.Core.Path.{◌≡◌, ap, sym, ◌∙◌}
use mathlib.Core.List.{List, ◌++◌}
use lib.ListN.{drop, replicate}
use lib.Seq.{drop-drop}
use Rattle.rows.specs.Row.{cleared}
use Rattle.arcs.specs.Work.{entries_at, work_end, SameLists, ElseSame}
use Rattle.asking.specs.Asking.{room_need}

-- With its numbers cleared the work row is as it was behind them, though lists were filled in and a run was made.
pub cleared_is : (n m need : ℕ) → need ≡ room_need n m → (before filled after : List ℕ) → ElseSame n m before filled → SameLists n filled after
    → replicate need 0 ++ drop need after ≡ cleared (room_need n m) before
cleared_is n m need e before filled after else lists =
    let end : work_end n m + m ≡ room_need n m = omega arith in
    let entries : drop (work_end n m) after ≡ drop (work_end n m) before =
    sym (drop-drop (m + m) (entries_at n) after) ∙ ap (drop (m + m)) lists.rest ∙ drop-drop (m + m) (entries_at n) filled ∙ else.back in
    let rest : drop (work_end n m + m) after ≡ drop (work_end n m + m) before =
    sym (drop-drop m (work_end n m) after) ∙ ap (drop m) entries ∙ drop-drop m (work_end n m) before in
    rw (e, ← end, rest)
