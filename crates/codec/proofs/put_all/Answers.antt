-- `put_all` meets its contract. The loop's invariant: the first k numbers stand in front.
use Prim.Native.Nat.{ℕ, ◌+◌, ◌*◌}
use mathlib.Core.Path.{◌≡◌, refl, ap, ◌∙◌}
use mathlib.Core.List.{List, map}
use native.Mathlib.Omega.{arith}
use lib.ListN.{length-map, get_or}
use Rattle.std.proofs.lemmas.Grind.{common_steps}
use Rattle.parts.specs.Placed.{placed}
use Rattle.little.specs.Little.{bytes_of}
use Rattle.little.proofs.Bytes.{written_none, written_next}
use Rattle.codec.proofs.put_all.Goals as goal

pub loop-k-init : goal.loop-k-init
loop-k-init g c = (refl, written_none g.T.Little.WIDTH (map g.T.Little.value c.args.numbers.now) c.args.bytes.now)

pub loop-k-preserved : goal.loop-k-preserved
loop-k-preserved g c =
    let numbers : List ℕ = map g.T.Little.value c.args.numbers.now in
    let here : g.T.Little.value c.index-numbers-k.result ≡ get_or numbers c.loop-k.k 0 = grind (arith, common_steps) in (
      c.put.auto.row ∙ c.loop-k.invariant.0,
      c.put.ensures
          ∙ ap (λ (w : ℕ). placed (w * c.loop-k.k) (w * c.loop-k.k + g.T.Little.WIDTH) (bytes_of g.T.Little.WIDTH (g.T.Little.value c.index-numbers-k.result)) c.loop-k.bytes) c.WIDTH.ensures
          ∙ written_next g.T.Little.WIDTH numbers c.args.bytes.now c.loop-k.k (g.T.Little.value c.index-numbers-k.result) c.loop-k.bytes (rw length-map (omega arith)) here c.loop-k.invariant.1,
    )
