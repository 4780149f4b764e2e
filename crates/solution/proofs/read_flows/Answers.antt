-- `read_flows` meets its contract: what all lines say is what the first `place` said, in the row, and what those from `at` on say.
use lib.ListN.{length-set, length}
use Rattle.wording.proofs.Saying.{number_here, number_open, say_none, say_stop, say_on, say_more, say_end}
use Prim.Native.Nat.{◌+◌}
use mathlib.Core.Path.{◌≡◌, refl, sym, ◌∙◌}
use native.Mathlib.Omega.{arith}
use Rattle.std.specs.Prelude.{Some, None}
use Rattle.std.proofs.lemmas.Result.{err_from_is_err_and}
use Rattle.solution.proofs.read_flows.Goals as goal

pub loop-place-init : goal.loop-place-init
loop-place-init c = (omega arith, refl, say_none _)

pub returns-then-text-end : goal.returns-then-text-end
returns-then-text-end c =
    let a = c.args in
    c.loop-place.invariant.2 ∙ say_stop a.tails.now a.heads.now a.capacities.now c.loop-place.row c.loop-place.place (c.loop-place.place + 2) a.text.now c.loop-place.at c.find-end.result c.find-end.ensures (omega arith) (omega arith) (omega arith)
    (number_open a.text.now c.loop-place.at c.find-end.result c.find-end.ensures _ _ c.if-text-end.true c.loop-place.invariant.0)

pub returns-in_err-row : goal.returns-in_err-row
returns-in_err-row c =
    let a = c.args in
    let failed = err_from_is_err_and c.from_residual.result c.from_residual.ensures.1 in
    let none : (c.flow_said.result ≡ None) × (record { line = c.loop-place.place + 2 } ≡ c.in_err-row.field-0.0) = grind arith in
    rw (failed.1, failed.2, ← none.1) (c.loop-place.invariant.2 ∙ say_stop a.tails.now a.heads.now a.capacities.now c.loop-place.row c.loop-place.place (c.loop-place.place + 2) a.text.now c.loop-place.at c.find-end.result c.find-end.ensures (omega arith) (omega arith) (omega arith)
    (number_here a.text.now c.loop-place.at c.find-end.result c.find-end.ensures _ _ c.if-text-end.false ∙ sym c.flow_said.ensures ∙ none.0))

pub loop-place-preserved : goal.loop-place-preserved
loop-place-preserved c =
    let a = c.args in
    let said : c.flow_said.result ≡ Some c.in_ok-row.field-0 = grind arith in
    let line : c.loop-place.place + 2 + 1 ≡ c.loop-place.place + 1 + 2 = omega arith in (
      omega arith,
      simp length-set c.loop-place.invariant.1,
      c.loop-place.invariant.2 ∙ rw (← line) (say_on a.tails.now a.heads.now a.capacities.now c.loop-place.row c.loop-place.place (c.loop-place.place + 2) a.text.now c.loop-place.at c.find-end.result c.find-end.ensures (omega arith) (omega arith) (omega arith) c.in_ok-row.field-0 (omega arith)
          (number_here a.text.now c.loop-place.at c.find-end.result c.find-end.ensures _ _ c.if-text-end.false ∙ sym c.flow_said.ensures ∙ said)),
    )

pub returns-then-at-text : goal.returns-then-at-text
returns-then-at-text c =
    let a = c.args in
    let all : c.loop-place.place ≡ length a.tails.now = omega arith in
    rw (← all) (c.loop-place.invariant.2 ∙ say_more a.tails.now a.heads.now a.capacities.now c.loop-place.row (c.loop-place.place + 2) a.text.now c.loop-place.at c.loop-place.place c.loop-place-test.false c.if-at-text.true)

pub returns : goal.returns
returns c =
    let a = c.args in
    let all : c.loop-place.place ≡ length a.tails.now = omega arith in
    c.loop-place.invariant.2 ∙ say_end a.tails.now a.heads.now a.capacities.now c.loop-place.row (c.loop-place.place + 2) a.text.now c.loop-place.at c.loop-place.place c.loop-place-test.false c.if-at-text.false ∙ rw all refl
