-- `line_length` meets its contract: three numbers and five bytes.
use native.Mathlib.Omega.{arith}
use mathlib.Core.Path.{ap}
use Prim.Native.Nat.{ℕ}
use lib.ListN.{length}
use Rattle.pen.specs.Printed.{printed}
use Rattle.wording.proofs.Lengths.{line_bytes}
use Rattle.solution.proofs.line_length.Goals as goal

pub returns : goal.returns
returns c = let a = c.args in
    omega (
      arith,
      line_bytes a.tail a.head a.flow,
      c.digit_count.ensures,
      c.digit_count-2.ensures,
      c.digit_count-3.ensures,
      ap (λ (n : ℕ). length (printed n)) c.from.ensures,
      ap (λ (n : ℕ). length (printed n)) c.from-2.ensures,
      ap (λ (n : ℕ). length (printed n)) c.from-3.ensures,
    )
