-- `filled_part` meets its contract: a part within its list has the length asked for.
use mathlib.Core.Path.{sym}
use lib.Seq.{length-take-le}
use Rattle.shorter.proofs.filled_part.Goals as goal

pub slice_bounds-result-end : goal.slice_bounds-result-end
slice_bounds-result-end c = sym (length-take-le _ _ c.requires)
