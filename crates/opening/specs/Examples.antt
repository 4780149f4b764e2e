-- Worked examples, by computation.
use Rattle.std.specs.Prelude.{◌≡◌, ℕ, List, [], ◌∷◌, replicate, refl}
use Rattle.rows.specs.Sum.{sum}
use Rattle.network.specs.Network.{inflow, outflow}
use Rattle.table.specs.Checks.{outside, differ, bad_ends, arc_fault, or_else, in_order}
use Rattle.minimums.specs.BoundedTable.{BoundedTable, bounded_of}
use Rattle.minimums.specs.Checks.{differ_four, bounded_sizes, bounded_fault, first_bounded_fault, all_zero}
use Rattle.table.specs.declared.Name.{Name}
use Rattle.table.specs.declared.Name.TheVariants.{Place, Bounded, Lower, NotMax}
use Rattle.reach.specs.Side.{side_from}
use Rattle.run.specs.Phase.{value}
use Rattle.solver.specs.Solving.{left, has_room, refusal, answer_with}
use Rattle.opening.specs.Opening.{opened_answer, opening}

-- P3 of document 01: 1>2 takes 4, 2>3 takes 3.
p3 : BoundedTable
p3 = bounded_of 3 1 3 (1 ∷ 2 ∷ []) (2 ∷ 3 ∷ []) (4 ∷ 3 ∷ []) (0 ∷ 0 ∷ [])

-- The work row's 17 numbers and one more.
works : ℕ → List ℕ
works x = x ∷ x ∷ x ∷ x ∷ x ∷ x ∷ x ∷ x ∷ x ∷ x ∷ x ∷ x ∷ x ∷ x ∷ x ∷ x ∷ x ∷ 1 ∷ []

-- 2>3 opens from 3 to 4: one more fits, and nothing but the source is reached any more. The stamp goes round 2^32.
p3_opens :
    opening p3 4294967295 1 4 (3 ∷ 3 ∷ 9 ∷ []) (7 ∷ 7 ∷ 7 ∷ 7 ∷ []) (works 1)
    ≡ left (opened_answer 4294967295 4) (4 ∷ 4 ∷ 9 ∷ []) (1 ∷ 0 ∷ 0 ∷ 7 ∷ []) (works 0)
unfolding opening p3 works has_room bounded_sizes outside differ differ_four bad_ends in_order or_else first_bounded_fault bounded_fault arc_fault all_zero side_from value inflow outflow sum answer_with
p3_opens = refl

-- 1>2 opens from 4 to 5: nothing moves but the stamp.
p3_opens_in_vain :
    opening p3 6 0 5 (3 ∷ 3 ∷ []) (7 ∷ 7 ∷ 7 ∷ []) (works 1)
    ≡ left (opened_answer 6 3) (3 ∷ 3 ∷ []) (1 ∷ 1 ∷ 0 ∷ []) (works 0)
unfolding opening p3 works has_room bounded_sizes outside differ differ_four bad_ends in_order or_else first_bounded_fault bounded_fault arc_fault all_zero side_from value inflow outflow sum answer_with
p3_opens_in_vain = refl

-- 1>2 takes 4, 1>3 takes 2, 2>3 takes 4 and 3>4 takes 1: the flow of one unit, with stamp 5, and room for the work.
diamond : BoundedTable
diamond = bounded_of 4 1 4 (1 ∷ 1 ∷ 2 ∷ 3 ∷ []) (2 ∷ 3 ∷ 3 ∷ 4 ∷ []) (4 ∷ 2 ∷ 4 ∷ 1 ∷ []) (0 ∷ 0 ∷ 0 ∷ 0 ∷ [])

-- Its work row's 25 numbers.
room : List ℕ
room = replicate 25 7

-- 3>4 opens from 1 to 6: a chain of 2 along places 1 and 3, then one of 3 along places 0, 2 and 3.
diamond_opens :
    opening diamond 5 3 6 (1 ∷ 0 ∷ 1 ∷ 1 ∷ []) (7 ∷ 7 ∷ 7 ∷ 7 ∷ []) room
    ≡ left (opened_answer 5 6) (4 ∷ 2 ∷ 4 ∷ 6 ∷ []) (1 ∷ 0 ∷ 0 ∷ 0 ∷ []) (replicate 25 0)
unfolding opening diamond room has_room bounded_sizes outside differ differ_four bad_ends in_order or_else first_bounded_fault bounded_fault arc_fault all_zero side_from value inflow outflow sum answer_with
diamond_opens = refl

-- A place that is not there, a capacity below the old, and a flow that is not largest; nothing is written.
p3_refuses : (place capacity : ℕ) (flow : List ℕ) → Name → ℕ → Type 0
p3_refuses place capacity flow name at =
    opening p3 6 place capacity flow (7 ∷ 7 ∷ 7 ∷ []) (works 1) ≡ left (refusal name at) flow (7 ∷ 7 ∷ 7 ∷ []) (works 1)

-- Place 2 of two arcs.
p3_place : p3_refuses 2 9 (3 ∷ 3 ∷ []) Place 2
unfolding p3_refuses opening p3 works has_room bounded_sizes outside differ differ_four bad_ends in_order or_else first_bounded_fault bounded_fault arc_fault all_zero
p3_place = refl

-- 2 for 3.
p3_lower : p3_refuses 1 2 (3 ∷ 3 ∷ []) Lower 0
unfolding p3_refuses opening p3 works has_room bounded_sizes outside differ differ_four bad_ends in_order or_else first_bounded_fault bounded_fault arc_fault all_zero
p3_lower = refl

-- A flow of 2 where 3 fit.
p3_not_largest : p3_refuses 1 4 (2 ∷ 2 ∷ []) NotMax 0
unfolding p3_refuses opening p3 works has_room bounded_sizes outside differ differ_four bad_ends in_order or_else first_bounded_fault bounded_fault arc_fault all_zero side_from inflow outflow sum
p3_not_largest = refl

-- P3 with a minimum of 1 on 2>3, and a place that is not there: BOUNDED comes first.
p3_bounded :
    opening (bounded_of 3 1 3 (1 ∷ 2 ∷ []) (2 ∷ 3 ∷ []) (4 ∷ 3 ∷ []) (0 ∷ 1 ∷ [])) 6 2 9 (3 ∷ 3 ∷ []) (7 ∷ 7 ∷ 7 ∷ []) (works 1)
    ≡ left (refusal Bounded 0) (3 ∷ 3 ∷ []) (7 ∷ 7 ∷ 7 ∷ []) (works 1)
unfolding opening works has_room bounded_sizes outside differ differ_four bad_ends in_order or_else first_bounded_fault bounded_fault arc_fault all_zero
p3_bounded = refl
