-- `write_reading` meets its contract: the three numbers are written one after the other.
use Prim.Native.Nat.{ℕ}
use mathlib.Core.Path.{ap, ◌∙◌}
use mathlib.Core.List.{List, ◌++◌}
use lib.ListN.{drop}
use Rattle.little.specs.Little.{bytes_of_all}
use Rattle.wire.proofs.Telling.{three_are}
use Rattle.booking.proofs.write_reading.Goals as goal

pub returns : goal.returns
returns c =
    c.put_all.ensures
    ∙ ap (λ (l : List ℕ). bytes_of_all 8 l ++ drop 24 c.args.res.now) (three_are c.args.r _ _ _ c.from.ensures c.from-2.ensures c.from-3.ensures)
