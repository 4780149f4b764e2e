-- `take_amounts` meets its contract: the amounts of the lines before `at` are in the rows, and those of the others are left.
use Prim.Native.Nat.{◌+◌, ◌≤◌}
use mathlib.Core.Path.{◌≡◌, ◌∙◌}
use mathlib.Core.Bool.{not}
use mathlib.Core.List.{◌++◌}
use native.Mathlib.Omega.{arith}
use lib.Dec.{eqb}
use lib.ListN.{length}
use Rattle.scan.specs.Parts.{LF}
use Rattle.scan.proofs.Parting.{run_within}
use Rattle.amounts.specs.Lines.{amount_in}
use Rattle.sharing.specs.Test.{out_sum, into_sum}
use Rattle.plan.proofs.Amounts.{amounts_from, amounts_here, amounts_end, balance_on, balance_end, pairs_on, pairs_end, most_on}
use Rattle.plan.proofs.take_amounts.Goals as goal

pub slice_bounds-line_kind-end : goal.slice_bounds-line_kind-end
slice_bounds-line_kind-end c =
    let within : c.find-end.result ≤ length c.args.text.now = omega (arith, c.find-end.ensures, run_within (λ b. not (eqb b LF)) c.args.text.now c.loop-at.at (omega arith)) in
    within

pub loop-at-preserved : goal.loop-at-preserved
loop-at-preserved c =
    let within : c.find-end.result ≤ length c.args.text.now = omega (arith, c.find-end.ensures, run_within (λ b. not (eqb b LF)) c.args.text.now c.loop-at.at (omega arith)) in
    let a = c.args in
    let all = amounts_from a.text.now 0 in
    let rest = amounts_from a.text.now c.loop-at.at in
    let more = amount_in c.line_kind-kind.result in
    let further = amounts_from a.text.now (c.find-end.result + 1) in
    let here : rest ≡ more ++ further = amounts_here a.text.now c.loop-at.at c.find-end.result c.loop-at-test.true c.find-end.ensures c.line_kind-kind.ensures in (
      record {
        few = c.loop-at.invariant.0.few;
        pairs = omega (arith, c.take_kind-fits.auto.room, c.loop-at.invariant.0.pairs);
        nodes_out = c.take_kind-fits.auto.out ∙ c.loop-at.invariant.0.nodes_out;
        nodes_into = c.take_kind-fits.auto.into ∙ c.loop-at.invariant.0.nodes_into;
      },
      omega (arith, within),
      most_on a.n c.loop-at.out c.take_kind-fits.new.out (out_sum more) c.loop-at.at (c.find-end.result + 1) c.loop-at.invariant.2 c.take_kind-fits.ensures.outs (omega (arith, c.find-end.ensures)),
      most_on a.n c.loop-at.into c.take_kind-fits.new.into (into_sum more) c.loop-at.at (c.find-end.result + 1) c.loop-at.invariant.3 c.take_kind-fits.ensures.intos (omega (arith, c.find-end.ensures)),
      balance_on a.n (λ i x. eqb x.tail i) c.loop-at.out c.take_kind-fits.new.out all rest more further c.loop-at.invariant.4 here c.take_kind-fits.ensures.outs,
      balance_on a.n (λ i x. eqb x.head i) c.loop-at.into c.take_kind-fits.new.into all rest more further c.loop-at.invariant.5 here c.take_kind-fits.ensures.intos,
      λ place p. pairs_on place a.room.now c.loop-at.room c.take_kind-fits.new.room all rest more further c.loop-at.fits c.take_kind-fits.result (c.loop-at.invariant.6 place p) here (c.take_kind-fits.ensures.pairs place p),
      c.take_kind-fits.auto.room ∙ c.loop-at.invariant.7,
    )

pub returns : goal.returns
returns c =
    let a = c.args in
    let all = amounts_from a.text.now 0 in
    let rest = amounts_from a.text.now c.loop-at.at in
    let none = amounts_end a.text.now c.loop-at.at c.loop-at-test.false in record {
      outs = balance_end a.n (λ i x. eqb x.tail i) c.loop-at.out all rest c.loop-at.invariant.4 none;
      intos = balance_end a.n (λ i x. eqb x.head i) c.loop-at.into all rest c.loop-at.invariant.5 none;
      pairs = λ place p. pairs_end place a.room.now c.loop-at.room all rest c.loop-at.fits (c.loop-at.invariant.6 place p) none;
    }
