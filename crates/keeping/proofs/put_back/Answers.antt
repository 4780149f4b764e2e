-- `put_back` meets its contract. The loop's invariant: the flows below k are put back, and the kept arcs below k are counted.
use Prim.Native.Nat.{ℕ, suc, ◌+◌}
use mathlib.Core.Path.{◌≡◌, refl, sym, ap₂, ◌∙◌}
use mathlib.Core.Bool.{Bool, true, false, cond}
use native.Mathlib.Omega.{arith}
use Rattle.rows.specs.Row.{at_place}
use Rattle.rows.proofs.Rows.{fill_place, fill_none}
use Rattle.listing.specs.Passing.{passing}
use Rattle.listing.proofs.Listing.{passing_few, counted_yes, counted_no}
use Rattle.shrinking.specs.Smaller.{arc_by, back_by}
use Rattle.keeping.proofs.put_back.Goals as goal
use Rattle.keeping.proofs.put_back.Goals.{then-keeps_arc, else-keeps_arc}

pub loop-k-init : goal.loop-k-init
unfolding passing
loop-k-init c = (refl, fill_none _ _)

pub bounds-flows-count : goal.bounds-flows-count
bounds-flows-count c =
    let test : ℕ → Bool = let args = c.args in arc_by args.ahead.now args.behind.now args.tails.now args.heads.now args.capacities.now in
    omega (arith, c.requires.4, c.loop-k.invariant.0, passing_few test c.loop-k.k)

pub offset_bounds-flows-count : goal.offset_bounds-flows-count
offset_bounds-flows-count c =
    let test : ℕ → Bool = let args = c.args in arc_by args.ahead.now args.behind.now args.tails.now args.heads.now args.capacities.now in
    omega (arith, c.requires.0.few_arcs, c.loop-k.invariant.0, passing_few test c.loop-k.k)

pub overflow_add-count : goal.overflow_add-count
overflow_add-count c =
    let test : ℕ → Bool = let args = c.args in arc_by args.ahead.now args.behind.now args.tails.now args.heads.now args.capacities.now in
    omega (arith, c.requires.0.few_arcs, c.loop-k.invariant.0, passing_few test c.loop-k.k)

pub loop-k-preserved : goal.loop-k-preserved
loop-k-preserved c =
    let test : ℕ → Bool = let args = c.args in arc_by args.ahead.now args.behind.now args.tails.now args.heads.now args.capacities.now in
    let k = c.loop-k.k in
    let flows = c.args.flows.now in
    let on : k + 1 ≡ suc k = omega arith in
    let back : (b : Bool) → c.keeps_arc.result ≡ b → back_by test flows k ≡ cond b (at_place flows c.loop-k.count) 0 =
    λ b e. ap₂ (λ (kept : Bool) (q : ℕ). cond kept (at_place flows q) 0) (sym c.keeps_arc.ensures ∙ e) (sym c.loop-k.invariant.0) in
    elim c.if-keeps_arc.branch [
      | then-keeps_arc w ↦ (
        counted_yes test k _ _ _ on (sym c.keeps_arc.ensures ∙ w.if-keeps_arc.true) c.loop-k.invariant.0 w.count-is,
        w.flow-is ∙ rw c.loop-k.invariant.1 (fill_place (back_by test flows) k _ c.args.flow.now (omega arith) (sym (back true w.if-keeps_arc.true))),
      )
      | else-keeps_arc w ↦ (
        counted_no test k _ _ _ on (sym c.keeps_arc.ensures ∙ w.if-keeps_arc.false) c.loop-k.invariant.0 w.count-is,
        w.flow-is ∙ rw c.loop-k.invariant.1 (fill_place (back_by test flows) k _ c.args.flow.now (omega arith) (sym (back false w.if-keeps_arc.false))),
      )
    ]
