-- `next` meets its contract: a line has the next arc, or the lines behind it have.
use Prim.Native.Nat.{◌+◌, ◌≤◌}
use mathlib.Core.Path.{◌≡◌, ◌∙◌}
use mathlib.Core.List.{◌∷◌}
use native.Mathlib.Omega.{arith}
use borrow.Author.Rules.{rules}
use lib.ListN.{length}
use Rattle.text.specs.Arcs.{arcs_left, arcs_from}
use Rattle.text.proofs.Judging.{line_within}
use Rattle.text.proofs.ArcWalk.{arcs_next, arcs_skip, arcs_end, no_arc}
use Rattle.text.proofs.ArcLinesIterator.next.Goals as goal

pub slice_bounds-line_kind-end : goal.slice_bounds-line_kind-end
slice_bounds-line_kind-end c =
    let within : c.find-end.result ≤ length c.loop-self.self.text.now = line_within c.loop-self.self.text.now c.loop-self.self.at _ (omega arith) c.find-end.ensures in
    within

pub returns-in-ArcLine-clause-steps : goal.returns-in-ArcLine-clause-steps
returns-in-ArcLine-clause-steps c =
    c.loop-self.invariant ∙ arcs_next c.loop-self.self.text.now c.loop-self.self.at c.find-end.result c.loop-self-test.true c.find-end.ensures c.line_kind-kind.ensures c.in-ArcLine.is

pub returns-in-ArcLine-clause-goes : goal.returns-in-ArcLine-clause-goes
returns-in-ArcLine-clause-goes c =
    let step : arcs_left c.args.self.now ≡ c.in-ArcLine.arc ∷ arcs_from c.loop-self.self.text.now (c.find-end.result + 1) =
    c.loop-self.invariant ∙ arcs_next c.loop-self.self.text.now c.loop-self.self.at c.find-end.result c.loop-self-test.true c.find-end.ensures c.line_kind-kind.ensures c.in-ArcLine.is in
    search (rules, step)

pub loop-self-preserved : goal.loop-self-preserved
loop-self-preserved c =
    c.loop-self.invariant ∙ arcs_skip c.loop-self.self.text.now c.loop-self.self.at c.find-end.result c.loop-self-test.true c.find-end.ensures c.line_kind-kind.ensures (no_arc c.line_kind-kind.result c.in_default.not-ArcLine)

pub returns-clause-steps : goal.returns-clause-steps
returns-clause-steps c =
    let none = arcs_end c.loop-self.self.text.now c.loop-self.self.at c.loop-self-test.false in
    (c.loop-self.invariant ∙ none, none)
