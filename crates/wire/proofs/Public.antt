-- The server's answers are those of the public calls; and arc bytes are ROWS, number 2, exactly where they are no multiple of 12.
use Rattle.std.specs.Prelude.{Ok, Err}
use Prim.Native.Nat.{ℕ, suc, ◌/◌, ◌%◌, ◌^◌}
use mathlib.Core.Path.{◌≡◌, refl, sym, ap, subst, ◌∙◌}
use mathlib.Core.Bool.{Bool, true, false, not, ◌||◌}
use mathlib.Core.List.{List, [], ◌∷◌}
use native.Mathlib.Omega.{arith}
use borrow.Author.Tests.{eq-eqb, ne_eqb}
use lib.Dec.{eqb, ltb}
use lib.ListN.{length}
use Rattle.table.specs.Table.{Table, arcs}
use Rattle.table.specs.Checks.{refuse_if, outside, differ, bad_ends, sizes_of, arc_fault, or_else, first_fault, in_order, check_of, no_refusal, Verdict}
use Rattle.table.specs.Refusals.{number_of, refusal_in, place_in}
use Rattle.table.specs.declared.Name.{Name}
use Rattle.table.specs.declared.Name.TheVariants.{Nodes, Rows, Arcs, Ends, Room, Node, Loop, Capacity}
use Rattle.table.proofs.Numbers.{number_positive}
use Rattle.solver.specs.Solving.{Left, has_room, answer_with, solved, solving_as, solving}
use Rattle.planner.specs.Solving.{SignedLeft, left_with_sign, SolvesAs, Solves}
use Rattle.wire.specs.Rows.{arc_table, without_minimums, returned_of, has_byte_room}
use Rattle.wire.specs.Solve.{Served, served_as, serving_verdict, serving}
use Rattle.wire.proofs.Sizes.{broken_is_rows, whole_is_even}
use Rattle.wire.proofs.Serving.{serves_sizes, own_rows}
use Rattle.wire.proofs.Telling.{no_minimums}

-- ---- the public call

-- What `planner::solve` leaves for the same table with minimums of 0, in any rows that have room, is what the server answers and writes.
pub serves_public : (t : Table) (stamp : ℕ) (flow side result flows marks work : List ℕ)
    → has_room t.nodes (arcs t) (length flows) (length marks) (length work) ≡ true
    → has_byte_room 56 t.nodes (arcs t) (length flow) (length side) (length result) ≡ true
    → (l : SignedLeft) → Solves (without_minimums t) stamp flows marks work l
    → (k : Left) × (l ≡ left_with_sign k) × (serving t stamp flow side result ≡ served_as t.nodes (arcs t) k flow side result)
serves_public t stamp flow side result flows marks work enough room l so =
    let same : l ≡ left_with_sign (solving t stamp flows marks work) = subst (λ p. SolvesAs p (without_minimums t) stamp flows marks work l) (no_minimums t) so in
    (solving t stamp flows marks work, same, own_rows t stamp flow side result flows marks work enough room)

-- ---- ROWS

-- The number returned of a verdict is not ROWS: its upper half is not 2.
abbrev NotRows : Verdict → Type 0
NotRows v = returned_of (refusal_in v) (place_in v) / 2 ^ 32 ≡ 2 → ⊥

-- Another name in front of such a verdict.
unless : (wrong : Bool) (name : Name) (place : ℕ) (next : Verdict) → (returned_of (number_of name) place / 2 ^ 32 ≡ 2 → ⊥)
    → NotRows next → NotRows (refuse_if wrong name place next)
unless true name place next other rest = other
unless false name place next other rest = rest

-- One such verdict before another.
either : (v next : Verdict) → NotRows v → NotRows next → NotRows (or_else v next)
unfolding or_else
either (Ok _) next first rest = rest
either (Err why) next first rest = first

-- Sizes whose three lengths are the same.
sizes_other : (n tails heads capacities s t : ℕ) → tails ≡ heads → tails ≡ capacities → NotRows (sizes_of n tails heads capacities s t)
unfolding sizes_of differ
sizes_other n tails heads capacities s t e f =
    rw (eq-eqb tails heads e, eq-eqb tails capacities f)
    (unless (outside 2 512 n) Nodes 0 _ (λ h. omega arith)
    (unless (ltb 4096 tails) Arcs 0 _ (λ h. omega arith)
    (unless (bad_ends n s t) Ends 0 no_refusal (λ h. omega arith) (λ h. omega arith))))

-- The first arc with a fault.
faults_other : (n place : ℕ) (ts hs cs : List ℕ) → NotRows (first_fault n place ts hs cs)
unfolding first_fault arc_fault
faults_other n place [] hs cs = λ h. omega arith
faults_other n place (t ∷ ts) [] cs = λ h. omega arith
faults_other n place (t ∷ ts) (h ∷ hs) [] = λ h. omega arith
faults_other n place (t ∷ ts) (h ∷ hs) (c ∷ cs) =
    either (arc_fault n place t h c) _
    (unless (outside 1 n t || outside 1 n h) Node place _ (λ e. omega arith)
    (unless (eqb t h) Loop place _ (λ e. omega arith)
    (unless (ltb 1000000 c) Capacity place no_refusal (λ e. omega arith) (λ e. omega arith))))
    (faults_other n (suc place) ts hs cs)

-- The checks of rows of one length.
checks_other : (t : Table) (room : Bool) → length t.tails ≡ length t.heads → length t.tails ≡ length t.capacities → NotRows (check_of t room)
unfolding in_order
checks_other t room e f =
    either (sizes_of t.nodes (length t.tails) (length t.heads) (length t.capacities) t.source t.sink) _
    (sizes_other t.nodes (length t.tails) (length t.heads) (length t.capacities) t.source t.sink e f)
    (unless (not room) Room 0 _ (λ h. omega arith) (faults_other t.nodes 0 t.tails t.heads t.capacities))

-- The number that the server returns is that of its verdict.
returned_is : (t : Table) (stamp : ℕ) (flow side result : List ℕ)
    → (serving t stamp flow side result).returned ≡ returned_of (refusal_in (serving_verdict t flow side result)) (place_in (serving_verdict t flow side result))
unfolding serving solving_as served_as solved answer_with
returned_is t stamp flow side result = go (serving_verdict t flow side result)
  where
    go : (v : Verdict) → (served_as t.nodes (arcs t) (solving_as v t stamp [] [] []) flow side result).returned ≡ returned_of (refusal_in v) (place_in v)
    go (Ok _) = refl
    go (Err why) = rw (ne_eqb (number_of why.name) 0 (number_positive why.name))

module _ (n s t : ℕ) (bytes : List ℕ) (stamp : ℕ) (flow side result : List ℕ) where
  -- A multiple of 12 is never ROWS:
  pub whole_never_rows : length bytes % 12 ≡ 0 → (serving (arc_table n s t bytes) stamp flow side result).returned / 2 ^ 32 ≡ 2 → ⊥
  whole_never_rows whole e =
      let (tails, heads, capacities) = whole_is_even n s t bytes whole in
      checks_other (arc_table n s t bytes) _ (tails ∙ sym heads) (tails ∙ sym capacities)
      (ap (λ (r : ℕ). r / 2 ^ 32) (sym (returned_is (arc_table n s t bytes) stamp flow side result)) ∙ e)

  -- with n in its bounds any other length always is.
  pub broken_always_rows : outside 2 512 n ≡ false → (length bytes % 12 ≡ 0 → ⊥)
      → (serving (arc_table n s t bytes) stamp flow side result).returned ≡ returned_of (number_of Rows) 0
  broken_always_rows nodes broken =
      sym (ap (λ (x : Served). x.returned) (serves_sizes (arc_table n s t bytes) stamp flow side result Rows 0 (broken_is_rows n s t bytes nodes broken) refl))
