-- The first flow above its capacity, of those from a place on.
use Prim.Native.Nat.{ℕ, ◌+◌, ◌<◌, ◌≤◌}
use mathlib.Core.Path.{◌≡◌, refl}
use mathlib.Core.List.{List}
use native.Mathlib.Numerals.{add-one}
use lib.ListN.{length, get_or, drop, drop_of_length-le}
use lib.Seq.{drop-cons}
use borrow.Author.Tests.{lt-ltb, le-ltb}
use Rattle.table.specs.declared.Name.TheVariants.{Solution}
use Rattle.solution.specs.Writing.{first_above}
use Rattle.table.specs.Checks.{no_refusal, refused}

module _ (capacities flow : List ℕ) (k : ℕ) where
  -- That at k is above: it is the first from k on,
  pub above_here : k < length capacities → k < length flow → get_or capacities k 0 < get_or flow k 0 → first_above k (drop k capacities) (drop k flow) ≡ refused Solution k
  unfolding first_above
  above_here a b h = rw (drop-cons capacities k 0 a, drop-cons flow k 0 b, lt-ltb (get_or capacities k 0) (get_or flow k 0) h) refl

  -- that at k is not, so the first is later,
  pub above_later : k < length capacities → k < length flow → get_or flow k 0 ≤ get_or capacities k 0
      → first_above k (drop k capacities) (drop k flow) ≡ first_above (k + 1) (drop (k + 1) capacities) (drop (k + 1) flow)
  unfolding first_above
  above_later a b h = rw (add-one, drop-cons capacities k 0 a, drop-cons flow k 0 b, le-ltb (get_or capacities k 0) (get_or flow k 0) h) refl

  -- and past the last arc there is none.
  pub above_end : length capacities ≤ k → first_above k (drop k capacities) (drop k flow) ≡ no_refusal
  unfolding first_above
  above_end h = rw (drop_of_length-le capacities h) refl
