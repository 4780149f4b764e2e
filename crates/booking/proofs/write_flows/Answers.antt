-- `write_flows` meets its contract: the first m flows are lent.
use Prim.Native.Nat.{ℕ, ◌*◌}
use mathlib.Core.Path.{ap, sym, ◌∙◌}
use mathlib.Core.List.{List, ◌++◌}
use native.Mathlib.Omega.{arith}
use lib.ListN.{length, take, drop}
use lib.Seq.{length-take-le}
use Rattle.std.proofs.lemmas.List.{map-id}
use Rattle.little.specs.Little.{bytes_of_all}
use Rattle.booking.proofs.write_flows.Goals as goal

pub slice_bounds-put_all-end : goal.slice_bounds-put_all-end
slice_bounds-put_all-end c = sym (length-take-le _ _ c.requires.1)

pub put_all-requires : goal.put_all-requires
put_all-requires c =
    let given = c.args in
    (omega (arith, length-take-le given.m given.flows.now c.requires.1, c.requires.0), omega (arith, length-take-le given.m given.flows.now c.requires.1, c.requires.2))

pub returns : goal.returns
returns c =
    let given = c.args in
    c.put_all.ensures
    ∙ ap (λ (l : List ℕ). bytes_of_all 4 l ++ drop (4 * length (take given.m given.flows.now)) given.flow.now) (map-id (take given.m given.flows.now))
    ∙ ap (λ (k : ℕ). bytes_of_all 4 (take given.m given.flows.now) ++ drop (4 * k) given.flow.now) (length-take-le given.m given.flows.now c.requires.1)
