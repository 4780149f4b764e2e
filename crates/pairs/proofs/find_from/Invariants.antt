-- `find_from` meets its contract: wherever the chain leads from its beginning, it leads from here.
use Prim.Native.Nat.{ℕ, ◌≤◌}
use lib.ListN.{length}
use Rattle.pairs.specs.Places.{Leads}
use Rattle.pairs.proofs.find_from.Given as goal

abbrev pub invariant-loop-at : goal.invariant-loop-at
invariant-loop-at l = (l.at ≤ length l.heads) × ((found : ℕ) → Leads l.heads l.next l.b l.from found → Leads l.heads l.next l.b l.at found)

abbrev pub decreases-loop-at : goal.decreases-loop-at
decreases-loop-at l = l.at
