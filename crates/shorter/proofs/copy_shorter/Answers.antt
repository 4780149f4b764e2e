-- `copy_shorter` meets its contract: the part has no more numbers than were said to be filled.
use Prim.Native.Nat.{◌<◌}
use mathlib.Core.Path.{ap, subst⁻¹, ◌∙◌}
use lib.ListN.{length}
use Rattle.shorter.specs.Shorter.{copied}
use Rattle.shorter.proofs.Copying.{shorter_few}
use borrow.Author.Rules.{rules}
use Rattle.shorter.proofs.copy_shorter.Goals as goal

pub copy_part-requires : goal.copy_part-requires
copy_part-requires c =
    let given = c.args in
    let first : given.in_first < 4294967296 = search rules in
    let second : given.in_second < 4294967296 = search rules in
    subst⁻¹ (λ l. length l < 4294967296) c.shorter-numbers.ensures (shorter_few _ _ _ _ 4294967296 first second)

pub returns : goal.returns
returns c =
    let given = c.args in
    c.copy_part.ensures ∙ ap (λ l. copied l given.part.now) c.shorter-numbers.ensures
