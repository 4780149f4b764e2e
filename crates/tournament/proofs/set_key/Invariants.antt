-- `set_key` meets its contract. The loop's invariant: p is a position of its level, all is right but its parent, and p holds the best so far.
use Rattle.tournament.proofs.Mending.{Mended}
use Prim.Native.Nat.{ℕ, ◌-◌, ◌*◌, ◌^◌, ◌≤◌, ◌<◌}
use Rattle.tournament.proofs.set_key.Given as goal

abbrev pub invariant-loop : goal.invariant-loop
invariant-loop l =
    (l.p < 1024) × (2 ^ (9 - l.counter) ≤ l.p) × (l.p < 2 * 2 ^ (9 - l.counter)) × ((n : ℕ) (keys : ℕ → ℕ) → Mended n keys l.initial.tree l.initial.p l.x → Mended n keys l.tree l.p l.best)
