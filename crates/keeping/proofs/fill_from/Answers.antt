-- `fill_from` meets its contract. The loop's invariant: the first j numbers stand in the row.
use mathlib.Core.Path.{sym, ◌∙◌}
use mathlib.Core.List.{map}
use native.Mathlib.Omega.{arith}
use Rattle.listing.proofs.Ranking.{map_at, map_long, copy_on}
use Rattle.keeping.proofs.fill_from.Goals as goal

pub loop-j-preserved : goal.loop-j-preserved
loop-j-preserved g c =
    let places = c.args.places.now in
    let long = map_long g.given places in
    copy_on (map g.given places) _ c.args.row.now c.loop-j.j _ (omega (arith, long)) (omega (arith, long, c.requires.1.1.1))
    (c.requires.1.1.0 _ (omega arith) _ c.value.ensures ∙ sym (map_at g.given places c.loop-j.j (omega arith))) c.loop-j.invariant
