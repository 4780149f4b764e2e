-- `start_labels` meets its contract. The invariant: the first i places hold the labels, the others as they were.
use Rattle.rows.proofs.Rows.{fill_none, fill_place}
use native.Mathlib.Numerals.{add-one}
use lib.ListN.{set}
use mathlib.Core.List.{List}
use mathlib.Core.Path.{ap, ◌∙◌}
use Prim.Native.Nat.{ℕ}
use native.Mathlib.Omega.{arith}
use Rattle.start.proofs.start_labels.Goals as goal

pub loop-i-init : goal.loop-i-init
loop-i-init c = fill_none _ _

pub loop-i-preserved : goal.loop-i-preserved
loop-i-preserved c =
    ap (λ (l : List ℕ). set l c.loop-i.i c.start_label.result) c.loop-i.invariant
    ∙ fill_place _ c.loop-i.i _ c.args.labels.now (omega arith) (c.start_label.ensures ∙ rw add-one)
