-- `write_result` meets its contract: the seven numbers are written one after the other.
use Prim.Native.Nat.{ℕ}
use mathlib.Core.Path.{ap, ◌∙◌}
use mathlib.Core.List.{List, ◌++◌}
use lib.ListN.{drop}
use Rattle.little.specs.Little.{bytes_of_all}
use Rattle.wire.proofs.Serving.{seven_are}
use Rattle.booking.proofs.write_result.Goals as goal

pub returns : goal.returns
returns c =
    c.put_all.ensures
    ∙ ap (λ (l : List ℕ). bytes_of_all 8 l ++ drop 56 c.args.res.now) (seven_are c.args.a _ _ c.from.ensures c.from-2.ensures)
