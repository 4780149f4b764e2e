-- `decimal_value` meets its contract: the digits from there on, behind the value so far, say what all say; k digits stay below 10 to the k.
use Prim.Native.Nat.{◌^◌, ◌<◌}
use mathlib.Core.Path.{◌≡◌}
use mathlib.Core.Bool.{true}
use lib.ListN.{drop}
use Rattle.scan.specs.Numbers.{all_digits, decimal}
use Rattle.scan.proofs.decimal_value.Given as goal

abbrev pub invariant-loop-byte : goal.invariant-loop-byte
invariant-loop-byte l = (l.value < 10 ^ l.byte-index) × (decimal 0 l.field ≡ decimal l.value (drop l.byte-index l.field)) × (all_digits (drop l.byte-index l.field) ≡ true)
