-- `set_key` meets its contract. The loop's invariant: p is a position of its level, all is right but its parent, and p holds the best so far.
use Rattle.tournament.proofs.Mending.{mend_first, mend_on, mend_last}
use mathlib.Core.Path.{◌≡◌, refl, ap}
use Prim.Native.Nat.{ℕ, ◌+◌, ◌-◌, ◌*◌, ◌^◌, ◌≤◌, ◌<◌}
use native.Mathlib.Numerals.{add-one}
use native.Mathlib.Nat.{pow-succ', one-le-pow}
use native.Mathlib.Omega.{arith}
use borrow.Author.Rules.{rules}
use Rattle.tournament.proofs.set_key.Goals as goal

-- A level has twice as many positions as the one above it.
wider : (counter : ℕ) → counter < 9 → (2 ^ (9 - counter) ≡ 2 * 2 ^ (9 - (counter + 1))) × (1 ≤ 2 ^ (9 - (counter + 1)))
wider counter l =
    let e : 9 - counter ≡ 9 - (counter + 1) + 1 = omega arith in
    (rw (e, add-one, pow-succ'), one-le-pow (9 - (counter + 1)) 2 (omega arith))

pub climb-best-requires : goal.climb-best-requires
climb-best-requires c =
    (omega (arith, wider c.loop.counter c.loop-test.true, c.loop.invariant), c.loop.invariant.0, search rules)

pub loop-preserved : goal.loop-preserved
loop-preserved c =
    let size = wider c.loop.counter c.loop-test.true in (
      omega (arith, c.loop.invariant.0),
      omega (arith, size, c.loop.invariant.1),
      omega (arith, size, c.loop.invariant.2),
      λ n keys m. mend_on n keys c.loop.tree c.climb-best.new.tree c.loop.p c.loop.best c.climb-best.result (omega (arith, size, c.loop.invariant.1)) c.loop.invariant.0 (c.loop.invariant.3 n keys m) c.climb-best.ensures.0 c.climb-best.ensures.1,
    )

pub returns : goal.returns
returns c =
    let top : 9 - c.loop.counter ≡ 0 = omega (arith, c.loop-test.false) in
    λ n keys up few t. mend_last n _ c.loop.tree c.loop.p c.loop.best (omega (arith, ap (λ (level : ℕ). 2 ^ level) top, c.loop.invariant.2))
    (c.loop.invariant.3 n _ (mend_first n keys c.args.tree.now _ c.args.i c.args.x c.requires.1.0 up few t refl))
