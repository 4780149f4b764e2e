-- From the checks and the run that stopped to the question's answer.
use Prim.Native.Nat.{ℕ}
use mathlib.Core.Path.{◌≡◌, ap}
use mathlib.Core.List.{List}
use lib.Dec.{leb}
use lib.ListN.{length}
use Rattle.table.specs.Table.{Table}
use Rattle.table.specs.declared.Name.{Name}
use Rattle.minimums.specs.BoundedTable.{BoundedTable}
use Rattle.work.specs.declared.Stop.{Stop}
use Rattle.asking.specs.declared.Room.{Room}
use Rattle.asking.specs.Asking.{RoomLeft, room_left, refusal, answer_with, asked, asking_as, asking_verdict, asking}
use Rattle.room.specs.Steps.{Halted}
use Rattle.table.specs.Checks.{no_refusal, refused, Verdict}

-- The results of the run that stopped, and the cleared work row, are those of a table that was asked.
pub asked_rows : (t : Table) (stamp q : ℕ) (work : List ℕ) (stop : Stop) (r : Room) (work_left : List ℕ) → Halted t q work stop work_left
    → r ≡ answer_with stamp (leb q stop.sink) stop.sink stop.scale stop.phases stop.counts → room_left r work_left ≡ asked t stamp q work
unfolding asked
asked_rows t stamp q work stop r work_left halted e =
    rw (halted.work_is, e, halted.sink_is, halted.scale_is, halted.phases_are, halted.counts_are)

module _ (b : BoundedTable) (stamp q : ℕ) (work : List ℕ) (v : Verdict) (found : v ≡ asking_verdict b (length work)) where
  -- Where the checks refuse, the question is refused and leaves the row.
  pub refused_asking : (name : Name) (place : ℕ) → v ≡ refused name place → (r : Room) → r ≡ refusal name place → room_left r work ≡ asking b stamp q work
  unfolding asking asking_as
  refused_asking name place e r f = rw (← found, e) (ap (λ (a : Room). room_left a work) f)

  -- Where they do not, the table is asked.
  pub fine_asking : v ≡ no_refusal → (l : RoomLeft) → l ≡ asked b.table stamp q work → l ≡ asking b stamp q work
  unfolding asking asking_as
  fine_asking e l f = rw (← found, e) f
