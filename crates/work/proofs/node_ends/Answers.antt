-- `node_ends` meets its contract: the starts of the work row say where node i's far ends stand.
use native.Mathlib.Omega.{arith}
use mathlib.Core.List.{List}
use lib.ListN.{length}
use Prim.Native.Nat.{ℕ}
use Rattle.rows.specs.Row.{Node}
use Rattle.arcs.specs.Residual.{list}
use Rattle.steps.specs.Rows.{FarEnds}
use Rattle.arcs.proofs.Work.{listed_cut}
use Rattle.work.proofs.Beside.{ends_within, ends_long, ends_far}
use mathlib.Core.Path.{◌≡◌, refl, subst⁻¹}
use Rattle.work.proofs.node_ends.Goals as goal

pub list_part-requires : goal.list_part-requires
list_part-requires c =
    let (t, known, of_n, node, far) = c.requires in
    let listed = listed_cut t c.args.n _ c.args.work.now of_n refl known in record {
      le_i = (node.0, omega (arith, listed.room, of_n, node));
      i_bound = ends_within t _ _ c.args.ends.now listed far c.args.i (omega (arith, of_n, node));
    }

pub returns : goal.returns
returns c t known of_n far =
    let listed = listed_cut t c.args.n _ c.args.work.now of_n refl known in
    let node : Node t.nodes c.args.i = omega (arith, of_n, c.requires.3) in
    subst⁻¹ (λ (row : List ℕ). (length row ≡ length (list t c.args.i)) × FarEnds t c.args.i (list t c.args.i) row) c.list_part.ensures
    (ends_long t _ _ c.args.ends.now listed far c.args.i node, ends_far t _ _ c.args.ends.now listed far c.args.i node)
