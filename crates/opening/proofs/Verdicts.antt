-- Laws of the refusals of an opening.
use Rattle.std.specs.Prelude.{Ok, Err}
use Rattle.std.proofs.Common.{◌≡◌, ℕ, suc, ◌<◌, ◌≤◌, Bool, true, false, not, ◌||◌, eqb, ltb, leb, List, [], ◌∷◌, length, sym, refl, ap, ◌∙◌, true≢false, arith, ltb-false, le-ltb, lt-ltb, le-leb, leb-false}
use borrow.Author.Tests.{lt-leb, not-false}
use Rattle.table.specs.Table.{Table, arcs, capacity}
use Rattle.table.specs.Accepted.{Accepted}
use Rattle.table.specs.Refusals.{number_of, refusal_in}
use Rattle.table.specs.Checks.{is_fine, refuse_if, outside, bad_ends, arc_fault, or_else, in_order, no_refusal, refused, Verdict}
use Rattle.minimums.specs.BoundedTable.{BoundedTable}
use Rattle.minimums.specs.Checks.{differ_four, bounded_sizes, bounded_fault, first_bounded_fault, bounded_check, all_zero, plain_check}
use Rattle.minimums.proofs.Accepting.{plain_accepts}
use Rattle.table.specs.declared.Name.{Name}
use Rattle.table.specs.declared.Name.TheVariants.{Nodes, Rows, Arcs, Ends, Room, Node, Loop, Capacity, Place, Minimum, Bounded, Lower, NotMax}
use Rattle.table.proofs.Faults.{or_else_fine, or_else_refused, passed}
use Rattle.table.proofs.Accepts.{both_fine}
use Rattle.solver.specs.Solving.{has_room}
use Rattle.solver.proofs.Solved.{Roomy, room_roomy}
use Rattle.opening.specs.Maximum.{MaximumFlow, is_maximum}
use Rattle.opening.specs.Opening.{change_verdict, opening_verdict}
use Rattle.opening.specs.Steps.{Opens}
use Rattle.opening.proofs.Testing.{test_maximum, maximum_test}

-- ---- `change_verdict`

module _ (t : Table) (place new : ℕ) (flow : List ℕ) where
  -- No such place.
  pub change_place : arcs t ≤ place → refused Place place ≡ change_verdict t place new flow
  unfolding change_verdict
  change_place past = rw (le-leb (arcs t) place past)

  module _ (below : place < arcs t) where
    -- More than the limit.
    pub change_capacity : 1000000 < new → refused Capacity place ≡ change_verdict t place new flow
    unfolding change_verdict
    change_capacity large = rw (lt-leb (arcs t) place below, lt-ltb 1000000 new large)

    module _ (small : new ≤ 1000000) where
      -- Less than before.
      pub change_lower : new < capacity t place → refused Lower 0 ≡ change_verdict t place new flow
      unfolding change_verdict
      change_lower less = rw (lt-leb (arcs t) place below, le-ltb 1000000 new small, lt-ltb new (capacity t place) less)

      module _ (more : capacity t place ≤ new) {r : Bool} (is : r ≡ is_maximum t flow) where
        -- Not a maximum flow.
        pub change_notmax : r ≡ false → refused NotMax 0 ≡ change_verdict t place new flow
        unfolding change_verdict
        change_notmax e = rw (lt-leb (arcs t) place below, le-ltb 1000000 new small, le-ltb new (capacity t place) more, sym is ∙ e)

        -- Nothing of these.
        pub change_fine : r ≡ true → no_refusal ≡ change_verdict t place new flow
        unfolding change_verdict
        change_fine e = rw (lt-leb (arcs t) place below, le-ltb 1000000 new small, le-ltb new (capacity t place) more, sym is ∙ e)

-- ---- what a verdict says

-- Where the change is not refused, what the call asks holds, and the row is a maximum flow.
pub change_opens : (t : Table) (place new : ℕ) (flow : List ℕ) (side work : ℕ) → Accepted t → Roomy t.nodes (arcs t) (length flow) side work
    → is_fine (change_verdict t place new flow) ≡ true → Opens t place new flow side work × MaximumFlow t flow
unfolding change_verdict
change_opens t place new flow side work ok roomy changes =
    let (there, rest) = passed (leb (arcs t) place) Place place _ changes in
    let (small, rest_too) = passed (ltb 1000000 new) Capacity place _ rest in
    let (more, last) = passed (ltb new (capacity t place)) Lower 0 _ rest_too in
    let (largest, none) = passed (not (is_maximum t flow)) NotMax 0 no_refusal last in
    let most : MaximumFlow t flow = test_maximum t flow ok (not-false (is_maximum t flow) largest) in (
      record {
        accepted = ok;
        for_flow = roomy.for_flow;
        for_side = roomy.for_side;
        for_work = roomy.for_work;
        below = leb-false (arcs t) place there;
        small = ltb-false 1000000 new small;
        more = ltb-false new (capacity t place) more;
        was = most.valid;
      },
      most,
    )

-- Where nothing is refused, both hold.
pub fine_opens : (b : BoundedTable) (place new : ℕ) (flow : List ℕ) (side work : ℕ) → opening_verdict b place new flow side work ≡ no_refusal
    → Opens b.table place new flow side work × MaximumFlow b.table flow
unfolding opening_verdict
fine_opens b place new flow side work fine =
    let t = b.table in
    let (passes, changes) = both_fine (plain_check b (has_room t.nodes (arcs t) (length flow) side work)) (change_verdict t place new flow) (ap is_fine fine) in
    let (ok, room) = plain_accepts b (has_room t.nodes (arcs t) (length flow) side work) passes in
    change_opens t place new flow side work ok (room_roomy t.nodes (arcs t) (length flow) side work room) changes

-- ---- NOTMAX is given for nothing else

-- A table's own checks and BOUNDED give none above 21.
low_if : (b : Bool) (name : Name) (place : ℕ) (next : Verdict) → number_of name ≤ 21 → refusal_in next ≤ 21 → refusal_in (refuse_if b name place next) ≤ 21
low_if true name place next l m = l
low_if false name place next l m = m

-- One verdict before another.
low_else : (v next : Verdict) → refusal_in v ≤ 21 → refusal_in next ≤ 21 → refusal_in (or_else v next) ≤ 21
unfolding or_else
low_else (Ok _) next l m = m
low_else (Err why) next l m = l

-- The first arc with a fault.
low_faults : (n place : ℕ) (tails heads capacities minimums : List ℕ) → refusal_in (first_bounded_fault n place tails heads capacities minimums) ≤ 21
unfolding first_bounded_fault bounded_fault arc_fault
low_faults n place [] heads capacities minimums = omega arith
low_faults n place (t ∷ ts) [] capacities minimums = omega arith
low_faults n place (t ∷ ts) (h ∷ hs) [] minimums = omega arith
low_faults n place (t ∷ ts) (h ∷ hs) (c ∷ cs) [] = omega arith
low_faults n place (t ∷ ts) (h ∷ hs) (c ∷ cs) (l ∷ ls) =
    low_else (bounded_fault n place t h c l) (first_bounded_fault n (suc place) ts hs cs ls)
    (low_else (arc_fault n place t h c) (refuse_if (ltb c l) Minimum place no_refusal)
    (low_if (outside 1 n t || outside 1 n h) Node place _ (omega arith)
    (low_if (eqb t h) Loop place _ (omega arith) (low_if (ltb 1000000 c) Capacity place no_refusal (omega arith) (omega arith))))
    (low_if (ltb c l) Minimum place no_refusal (omega arith) (omega arith)))
    (low_faults n (suc place) ts hs cs ls)

-- All of them.
low_check : (b : BoundedTable) (room : Bool) → refusal_in (plain_check b room) ≤ 21
unfolding in_order bounded_sizes
low_check b room =
    let t = b.table in
    let sizes = bounded_sizes t.nodes (length t.tails) (length t.heads) (length t.capacities) (length b.minimums) t.source t.sink in
    let faults = first_bounded_fault t.nodes 0 t.tails t.heads t.capacities b.minimums in
    low_else (bounded_check b room) (refuse_if (not (all_zero b.minimums)) Bounded 0 no_refusal)
    (low_else sizes (refuse_if (not room) Room 0 faults)
    (low_if (outside 2 512 t.nodes) Nodes 0 _ (omega arith)
    (low_if (differ_four (length t.tails) (length t.heads) (length t.capacities) (length b.minimums)) Rows 0 _ (omega arith)
    (low_if (ltb 4096 (length t.tails)) Arcs 0 _ (omega arith)
    (low_if (bad_ends t.nodes t.source t.sink) Ends 0 no_refusal (omega arith) (omega arith)))))
    (low_if (not room) Room 0 _ (omega arith) (low_faults t.nodes 0 t.tails t.heads t.capacities b.minimums)))
    (low_if (not (all_zero b.minimums)) Bounded 0 no_refusal (omega arith) (omega arith))

-- A change of an accepted table gives 23 only where the row is not a maximum flow.
change_rank : (a b c d : Bool) (place : ℕ) → refusal_in (refuse_if a Place place (refuse_if b Capacity place (refuse_if c Lower 0 (refuse_if (not d) NotMax 0 no_refusal)))) ≡ 23 → d ≡ false
change_rank true b c d place e = absurd (omega arith)
change_rank false true c d place e = absurd (omega arith)
change_rank false false true d place e = absurd (omega arith)
change_rank false false false true place e = absurd (omega arith)
change_rank false false false false place e = refl

-- So 23 means that it is not.
pub notmax_not : (b : BoundedTable) (place new : ℕ) (flow : List ℕ) (side work : ℕ) → refusal_in (opening_verdict b place new flow side work) ≡ 23 → MaximumFlow b.table flow → ⊥
unfolding opening_verdict change_verdict
notmax_not b place new flow side work e most = go (plain_check b room) refl
  where
    room : Bool
    room = has_room b.table.nodes (arcs b.table) (length flow) side work

    go : (v : Verdict) → plain_check b room ≡ v → ⊥
    go (Ok _) found =
        let fine : is_fine (plain_check b room) ≡ true = ap is_fine found in
        let (ok, roomy) = plain_accepts b room fine in
        let long = (room_roomy b.table.nodes (arcs b.table) (length flow) side work roomy).for_flow in
        let changed = ap refusal_in (sym (or_else_fine (plain_check b room) (change_verdict b.table place new flow) fine)) ∙ e in
        true≢false (sym (maximum_test b.table flow ok long most) ∙ change_rank (leb (arcs b.table) place) (ltb 1000000 new) (ltb new (capacity b.table place)) (is_maximum b.table flow) place changed)
    go (Err why) found =
        let refused : is_fine (plain_check b room) ≡ false = ap is_fine found in
        let same = ap refusal_in (or_else_refused (plain_check b room) (change_verdict b.table place new flow) refused) in
        omega (arith, e, same, low_check b room)
