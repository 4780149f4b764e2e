-- ROWS, number 2, is never given of rows of one length: of arc records, and so of a text.
use Rattle.std.specs.Prelude.{Ok, Err}
use Prim.Native.Nat.{ℕ, suc}
use mathlib.Core.Path.{◌≡◌, sym, ◌∙◌}
use mathlib.Core.Bool.{Bool, true, false, not, ◌||◌}
use mathlib.Core.List.{List, [], ◌∷◌}
use native.Mathlib.Omega.{arith}
use borrow.Author.Tests.{eq-eqb}
use lib.Dec.{eqb, ltb}
use lib.ListN.{length-map}
use Rattle.table.specs.Refusals.{number_of, refusal_in}
use Rattle.table.specs.Checks.{refuse_if, outside, differ, bad_ends, arc_fault, or_else, in_order, no_refusal, Verdict}
use Rattle.table.specs.declared.Name.{Name}
use Rattle.table.specs.declared.Name.TheVariants.{Nodes, Arcs, Ends, Room, Node, Loop, Capacity, Minimum}
use Rattle.minimums.specs.declared.Arc.{Arc}
use Rattle.minimums.specs.BoundedTable.{record_table}
use Rattle.minimums.specs.Checks.{differ_four, bounded_sizes, bounded_fault, first_bounded_fault, bounded_check}

-- A verdict that is not ROWS.
abbrev pub Rowless : Verdict → Type 0
Rowless v = refusal_in v ≡ 2 → ⊥

-- Another name in front of such a verdict.
unless : (wrong : Bool) (name : Name) (place : ℕ) (next : Verdict) → (number_of name ≡ 2 → ⊥) → Rowless next → Rowless (refuse_if wrong name place next)
unless true name place next other rest = other
unless false name place next other rest = rest

-- One such verdict before another.
either : (v next : Verdict) → Rowless v → Rowless next → Rowless (or_else v next)
unfolding or_else
either (Ok _) next first rest = rest
either (Err why) next first rest = first

-- Sizes whose four lengths are the same.
sizes_rowless : (n tails heads capacities minimums s t : ℕ) → tails ≡ heads → tails ≡ capacities → capacities ≡ minimums
    → Rowless (bounded_sizes n tails heads capacities minimums s t)
unfolding bounded_sizes differ_four differ
sizes_rowless n tails heads capacities minimums s t e f g =
    rw (eq-eqb tails heads e, eq-eqb tails capacities f, eq-eqb capacities minimums g)
    (unless (outside 2 512 n) Nodes 0 _ (λ h. omega arith)
    (unless (ltb 4096 tails) Arcs 0 _ (λ h. omega arith)
    (unless (bad_ends n s t) Ends 0 no_refusal (λ h. omega arith) (λ h. omega arith))))

-- An arc's fault.
arc_rowless : (n place tail head capacity minimum : ℕ) → Rowless (bounded_fault n place tail head capacity minimum)
unfolding bounded_fault arc_fault
arc_rowless n place tail head capacity minimum =
    either (arc_fault n place tail head capacity) _
    (unless (outside 1 n tail || outside 1 n head) Node place _ (λ h. omega arith)
    (unless (eqb tail head) Loop place _ (λ h. omega arith)
    (unless (ltb 1000000 capacity) Capacity place no_refusal (λ h. omega arith) (λ h. omega arith))))
    (unless (ltb capacity minimum) Minimum place no_refusal (λ h. omega arith) (λ h. omega arith))

-- The first arc with a fault.
arcs_rowless : (n place : ℕ) (ts hs cs ls : List ℕ) → Rowless (first_bounded_fault n place ts hs cs ls)
unfolding first_bounded_fault
arcs_rowless n place [] hs cs ls = λ h. omega arith
arcs_rowless n place (t ∷ ts) [] cs ls = λ h. omega arith
arcs_rowless n place (t ∷ ts) (h ∷ hs) [] ls = λ h. omega arith
arcs_rowless n place (t ∷ ts) (h ∷ hs) (c ∷ cs) [] = λ h. omega arith
arcs_rowless n place (t ∷ ts) (h ∷ hs) (c ∷ cs) (l ∷ ls) =
    either (bounded_fault n place t h c l) _ (arc_rowless n place t h c l) (arcs_rowless n (suc place) ts hs cs ls)

-- The checks of a table of arc records never give ROWS.
pub records_rowless : (n s t : ℕ) (arcs : List Arc) (room : Bool) → Rowless (bounded_check (record_table n s t arcs) room)
unfolding in_order
records_rowless n s t arcs room =
    let tails = length-map arcs (λ (a : Arc). a.tail) in
    let heads = length-map arcs (λ (a : Arc). a.head) in
    let capacities = length-map arcs (λ (a : Arc). a.capacity) in
    let minimums = length-map arcs (λ (a : Arc). a.minimum) in
    either (bounded_sizes n _ _ _ _ s t) _
    (sizes_rowless n _ _ _ _ s t (tails ∙ sym heads) (tails ∙ sym capacities) (capacities ∙ sym minimums))
    (unless (not room) Room 0 _ (λ h. omega arith) (arcs_rowless n 0 _ _ _ _))
