-- What the promise leaves open: nothing. Two results that meet it are equal, the work row too.
use Rattle.std.specs.Prelude.{Ok, Err}
use Prim.Native.Nat.{ℕ}
use mathlib.Core.Path.{◌≡◌, refl, sym, ap, ◌∙◌}
use mathlib.Core.List.{List}
use lib.ListN.{length}
use Rattle.table.specs.Table.{Table}
use Rattle.minimums.specs.BoundedTable.{BoundedTable}
use Rattle.asking.specs.Asking.{RoomLeft, answer_with, asked, asking_as, asking_verdict, asking}
use Rattle.table.specs.Checks.{Verdict}

-- The answer and the work row.
pub ask_unique : (b : BoundedTable) (stamp q : ℕ) (work : List ℕ) (x y : RoomLeft) → x ≡ asking b stamp q work → y ≡ asking b stamp q work → x ≡ y
ask_unique b stamp q work x y e f = e ∙ sym f

-- By one verdict the answer is the same, whatever the row held.
answer_by_verdict : (v : Verdict) (t : Table) (stamp q : ℕ) (work other : List ℕ) → (asking_as v t stamp q work).answer ≡ (asking_as v t stamp q other).answer
unfolding asking_as asked
answer_by_verdict (Ok _) t stamp q work other = refl
answer_by_verdict (Err why) t stamp q work other = refl

-- Whatever stood in the lent row before does not matter to the answer: only its length does.
pub old_row_idle : (b : BoundedTable) (stamp q : ℕ) (work other : List ℕ) → length work ≡ length other
    → (asking b stamp q work).answer ≡ (asking b stamp q other).answer
unfolding asking
old_row_idle b stamp q work other long =
    answer_by_verdict (asking_verdict b (length work)) b.table stamp q work other
    ∙ ap (λ (n : ℕ). (asking_as (asking_verdict b n) b.table stamp q other).answer) long

-- Whether a question is refused does not depend on q.
pub refusal_idle : (b : BoundedTable) (stamp q other : ℕ) (work : List ℕ) → (asking b stamp q work).answer.refusal ≡ (asking b stamp other work).answer.refusal
unfolding asking asking_as asked answer_with
refusal_idle b stamp q other work = by_verdict (asking_verdict b (length work))
  where
    by_verdict : (v : Verdict) → (asking_as v b.table stamp q work).answer.refusal ≡ (asking_as v b.table stamp other work).answer.refusal
    by_verdict (Ok _) = refl
    by_verdict (Err why) = refl
