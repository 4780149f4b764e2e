-- Arcs that are full: for the contract of the function that tests them.
use Rattle.std.specs.Prelude.{ℕ, ◌≤◌, ◌<◌, ◌≡◌, Bool, true, false, List}
use Rattle.rows.specs.Row.{at_place}

-- Whether the arcs from place `from` up to place `to` are all full.
pub record Full (capacities flow : List ℕ) (from to : ℕ) (yes : Bool) : Type 0 where
  pub all : yes ≡ true → (k : ℕ) → from ≤ k → k < to → at_place capacities k ≡ at_place flow k
  pub some : yes ≡ false → (k : ℕ) × (from ≤ k) × (k < to) × (at_place flow k ≡ at_place capacities k → ⊥)
