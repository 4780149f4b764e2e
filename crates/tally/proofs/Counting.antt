-- One day more, by whether it is refused; one solved day more, by whether its value is the least so far.
use Prim.Native.Nat.{ℕ, ◌+◌}
use mathlib.Core.Path.{◌≡◌, sym, ◌∙◌}
use mathlib.Core.Bool.{Bool, true, false}
use borrow.Author.Tests.{eq-eqb, ne_eqb}
use Rattle.solver.specs.declared.Answer.{Answer}
use Rattle.tally.specs.declared.Tally.{Tally}
use Rattle.tally.specs.Sums.{is_lower, counted, tallied}

module _ (b : Tally) (day : ℕ) (a : Answer) where
  -- A day without a refusal counts,
  pub solved_day : a.refusal ≡ 0 → tallied b day a ≡ counted b day a.value
  unfolding tallied
  solved_day none = rw (eq-eqb a.refusal 0 none)

  -- and a refused one does not.
  pub refused_day : (a.refusal ≡ 0 → ⊥) → tallied b day a ≡ b
  unfolding tallied
  refused_day some = rw (ne_eqb a.refusal 0 some)

module _ (b : Tally) (day value : ℕ) {low : Bool} (told : low ≡ is_lower b value) where
  -- A solved day that is the least so far.
  pub counted_lower : low ≡ true → record { solved = b.solved + 1; total = b.total + value; day = day; least = value } ≡ counted b day value
  unfolding counted
  counted_lower e = let is : is_lower b value ≡ true = sym told ∙ e in rw is

  -- One that is not.
  pub counted_higher : low ≡ false → record { solved = b.solved + 1; total = b.total + value; day = b.day; least = b.least } ≡ counted b day value
  unfolding counted
  counted_higher e = let is : is_lower b value ≡ false = sym told ∙ e in rw is
