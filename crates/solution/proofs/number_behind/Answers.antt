-- `number_behind` meets its contract, by each of its tests.
use mathlib.Core.Path.{◌≡◌, sym, ap, ◌∙◌}
use mathlib.Core.Bool.{true}
use Prim.Native.Nat.{◌-◌}
use lib.ListN.{length, drop, length-drop}
use lib.Seq.{take_all}
use native.Mathlib.Omega.{arith}
use Rattle.wording.proofs.Bytes.{begins_length}
use Rattle.scan.specs.Parts.{begins_with}
use Rattle.scan.specs.Numbers.{number_in}
use Rattle.wording.proofs.Saying.{behind_other, behind_none, behind_above, behind_value}
use Rattle.solution.proofs.number_behind.Goals as goal

pub returns-then-not-begins_with : goal.returns-then-not-begins_with
returns-then-not-begins_with c = let a = c.args in
    sym (behind_other a.front.now a.line.now a.most (sym c.begins_with.ensures ∙ c.if-not-begins_with.true))

pub slice_bounds-read_number-count : goal.slice_bounds-read_number-count
slice_bounds-read_number-count c =
    let begins : begins_with c.args.front.now c.args.line.now ≡ true = sym c.begins_with.ensures ∙ c.if-not-begins_with.false in
    begins_length _ _ begins

pub slice_bounds-read_number-start : goal.slice_bounds-read_number-start
slice_bounds-read_number-start c =
    let begins : begins_with c.args.front.now c.args.line.now ≡ true = sym c.begins_with.ensures ∙ c.if-not-begins_with.false in
    omega (arith, begins_length _ _ begins)

pub returns-in_err-number : goal.returns-in_err-number
returns-in_err-number c =
    let begins : begins_with c.args.front.now c.args.line.now ≡ true = sym c.begins_with.ensures ∙ c.if-not-begins_with.false in
    let behind : number_in (drop (length c.args.front.now) c.args.line.now) ≡ c.read_number.result = let a = c.args in let whole = take_all (length a.line.now - length a.front.now) (drop (length a.front.now) a.line.now) (rw length-drop (omega arith)) in sym (c.read_number.ensures ∙ ap number_in whole) in
    let a = c.args in
    rw c.from_residual.ensures (sym (behind_none a.front.now a.line.now a.most begins (behind ∙ c.in_err-number.was)))

pub returns-else-number-most : goal.returns-else-number-most
returns-else-number-most c =
    let begins : begins_with c.args.front.now c.args.line.now ≡ true = sym c.begins_with.ensures ∙ c.if-not-begins_with.false in
    let behind : number_in (drop (length c.args.front.now) c.args.line.now) ≡ c.read_number.result = let a = c.args in let whole = take_all (length a.line.now - length a.front.now) (drop (length a.front.now) a.line.now) (rw length-drop (omega arith)) in sym (c.read_number.ensures ∙ ap number_in whole) in
    let a = c.args in
    sym (behind_above a.front.now a.line.now a.most c.in_ok-number.number begins (behind ∙ c.in_ok-number.was) c.if-number-most.false)

pub returns-then-number-most : goal.returns-then-number-most
returns-then-number-most c =
    let begins : begins_with c.args.front.now c.args.line.now ≡ true = sym c.begins_with.ensures ∙ c.if-not-begins_with.false in
    let behind : number_in (drop (length c.args.front.now) c.args.line.now) ≡ c.read_number.result = let a = c.args in let whole = take_all (length a.line.now - length a.front.now) (drop (length a.front.now) a.line.now) (rw length-drop (omega arith)) in sym (c.read_number.ensures ∙ ap number_in whole) in
    let a = c.args in
    sym (behind_value a.front.now a.line.now a.most c.in_ok-number.number begins (behind ∙ c.in_ok-number.was) c.if-number-most.true)
