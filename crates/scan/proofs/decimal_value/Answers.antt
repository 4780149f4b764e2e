-- `decimal_value` meets its contract: the digits from there on, behind the value so far, say what all say; k digits stay below 10 to the k.
use mathlib.Core.Path.{refl, sym, ◌∙◌}
use native.Mathlib.Omega.{arith}
use Rattle.scan.proofs.Walk.{digits_first, decimal_more, decimal_end, power_more}
use Rattle.scan.proofs.decimal_value.Goals as goal

pub overflow_sub-byte : goal.overflow_sub-byte
overflow_sub-byte c = (digits_first c.args.field.now c.loop-byte.byte-index (omega arith) c.loop-byte.invariant.2).0

pub loop-byte-preserved : goal.loop-byte-preserved
loop-byte-preserved c =
    let xs = c.args.field.now in
    let d = digits_first xs c.loop-byte.byte-index (omega arith) c.loop-byte.invariant.2 in (
      power_more c.loop-byte.byte-index c.loop-byte.value c.from.result c.loop-byte.invariant.0 (omega (arith, c.from.ensures, d)),
      c.loop-byte.invariant.1 ∙ decimal_more xs c.loop-byte.byte-index c.loop-byte.value (omega arith) ∙ rw (← c.from.ensures) refl,
      d.2,
    )

pub returns : goal.returns
returns c =
    sym (c.loop-byte.invariant.1 ∙ decimal_end c.args.field.now c.loop-byte.byte-index c.loop-byte.value c.loop-byte-test.false)
