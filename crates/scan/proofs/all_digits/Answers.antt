-- `all_digits` meets its contract: each byte is tested.
use mathlib.Core.Path.{◌∙◌}
use Rattle.std.proofs.Common.{rules, tests}
use Rattle.std.proofs.lemmas.Iterator.{YieldsList-from_slice}
use Rattle.std.proofs.lemmas.Iterator.Search.{all_from_yields_List}
use Rattle.scan.specs.Numbers.{is_digit}
use Rattle.scan.proofs.Comparing.{digits_is}
use Rattle.scan.proofs.all_digits.Goals as goal

pub returns : goal.returns
unfolding is_digit
returns c = all_from_yields_List is_digit _ _ _ c.all.ensures.ran (YieldsList-from_slice c.args.field.now cc) (λ x b q k. search (rules, tests)) ∙ digits_is c.args.field.now
