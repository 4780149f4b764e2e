-- `write_nine` meets its contract: nine stores fill the row.
use native.Mathlib.Omega.{arith}
use lib.ListN.{length-set}
use mathlib.Core.Path.{sym, ◌∙◌}
use Rattle.rows.proofs.Storing.{sets_all}
use Rattle.days.proofs.Writing.{nine_is}
use mathlib.Core.List.{[], ◌∷◌}
use Rattle.month.proofs.write_nine.Goals as goal

pub bounds-row-4 : goal.bounds-row-4
bounds-row-4 c = simp length-set (omega arith)

pub bounds-row-5 : goal.bounds-row-5
bounds-row-5 c = simp length-set (omega arith)

pub bounds-row-6 : goal.bounds-row-6
bounds-row-6 c = simp length-set (omega arith)

pub bounds-row-7 : goal.bounds-row-7
bounds-row-7 c = simp length-set (omega arith)

pub bounds-row-8 : goal.bounds-row-8
bounds-row-8 c = simp length-set (omega arith)

pub returns : goal.returns
returns c =
    let a = c.args.a in
    sets_all c.args.row.now (c.from.result ∷ c.from-2.result ∷ c.from-3.result ∷ a.value ∷ a.scale ∷ c.from-4.result ∷ a.saturating ∷ a.nonsaturating ∷ a.relabels ∷ []) (sym c.requires)
    ∙ nine_is a _ _ _ _ c.from.ensures c.from-2.ensures c.from-3.ensures c.from-4.ensures
