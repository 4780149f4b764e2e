-- Document 02, CR 11: what is wrong with a table of four rows. ROWS looks at all of them, and an arc's MINIMUM comes after its CAPACITY.
use Rattle.std.specs.Prelude.{ℕ, suc, ◌+◌, ◌≤◌, ◌<◌, ◌≡◌, Bool, not, ◌&&◌, ◌||◌, List, [], ◌∷◌, ltb, eqb, length, Ok, Err}
use Rattle.std.specs.List.{list_all}
use Rattle.rows.specs.Row.{at_place}
use Rattle.table.specs.Table.{Table, arcs}
use Rattle.table.specs.Checks.{refuse_if, outside, differ, bad_ends, arc_fault, or_else, in_order, no_refusal, refused, Verdict}
use Rattle.table.specs.declared.Name.TheVariants.{Nodes, Rows, Arcs, Ends, Minimum, Bounded}
use Rattle.minimums.specs.BoundedTable.{BoundedTable}

-- Four lengths that are not all the same.
unfoldable pub differ_four : (tails heads capacities minimums : ℕ) → Bool
differ_four tails heads capacities minimums = differ tails heads capacities || not (eqb capacities minimums)

-- The first of NODES, ROWS (the four lengths differ), ARCS and ENDS that holds, or nothing.
unfoldable pub bounded_sizes : (n tails heads capacities minimums s t : ℕ) → Verdict
bounded_sizes n tails heads capacities minimums s t =
    refuse_if (outside 2 512 n) Nodes 0
    (refuse_if (differ_four tails heads capacities minimums) Rows 0
    (refuse_if (ltb 4096 tails) Arcs 0
    (refuse_if (bad_ends n s t) Ends 0 no_refusal)))

-- An arc's fault: NODE before LOOP before CAPACITY before MINIMUM, one above its capacity, with the arc's place.
unfoldable pub bounded_fault : (n place tail head capacity minimum : ℕ) → Verdict
bounded_fault n place tail head capacity minimum =
    or_else (arc_fault n place tail head capacity) (refuse_if (ltb capacity minimum) Minimum place no_refusal)

-- The first arc with a fault, of arcs whose places start at `place`.
unfoldable pub first_bounded_fault : (n place : ℕ) (tails heads capacities minimums : List ℕ) → Verdict
unfolding bounded_fault
first_bounded_fault n place [] heads capacities minimums = no_refusal
first_bounded_fault n place (t ∷ ts) [] capacities minimums = no_refusal
first_bounded_fault n place (t ∷ ts) (h ∷ hs) [] minimums = no_refusal
first_bounded_fault n place (t ∷ ts) (h ∷ hs) (c ∷ cs) [] = no_refusal
first_bounded_fault n place (t ∷ ts) (h ∷ hs) (c ∷ cs) (l ∷ ls) =
    or_else (bounded_fault n place t h c l) (first_bounded_fault n (suc place) ts hs cs ls)

-- A table with a row of minimums.
abbrev pub with_minimums : Table → List ℕ → BoundedTable
with_minimums t minimums = record { table = t; minimums = minimums }

-- All checks of a bounded table, with the caller's answer to whether its rows have room.
abbrev pub bounded_check : BoundedTable → (room : Bool) → Verdict
bounded_check b room =
    in_order
    (bounded_sizes b.table.nodes (length b.table.tails) (length b.table.heads) (length b.table.capacities) (length b.minimums) b.table.source b.table.sink)
    room
    (first_bounded_fault b.table.nodes 0 b.table.tails b.table.heads b.table.capacities b.minimums)

-- ---- tables without minimums

-- Whether all numbers of a row are 0.
unfoldable pub all_zero : List ℕ → Bool
all_zero row = list_all (λ x. eqb x 0) row

-- Whether there is a minimum for each arc, and all are 0.
abbrev pub plain : BoundedTable → Bool
plain b = eqb (length b.minimums) (arcs b.table) && all_zero b.minimums

-- All checks of a call that takes no minimum above 0: the table's own, and right after them BOUNDED.
abbrev pub plain_check : BoundedTable → (room : Bool) → Verdict
plain_check b room = or_else (bounded_check b room) (refuse_if (not (all_zero b.minimums)) Bounded 0 no_refusal)

-- ---- how the code finds them: the verdict of three rows, and a minimum above its capacity before the place that it refuses

-- Where the arcs end that stand before what a verdict refuses: all of m where it refuses nothing.
abbrev pub end_of : Verdict → ℕ → ℕ
end_of (Ok _) m = m
end_of (Err why) m = why.place

-- The first minimum above its capacity, of arcs whose places start at `place` and end before `end`, or none.
pub data FirstAbove (place end : ℕ) (capacities minimums : List ℕ) : Verdict → Type 0 where
  none : ((k : ℕ) → place + k < end → at_place minimums k ≤ at_place capacities k) → FirstAbove place end capacities minimums no_refusal
  first : (k at : ℕ) → at ≡ place + k → at < end → at_place capacities k < at_place minimums k
      → ((j : ℕ) → j < k → at_place minimums j ≤ at_place capacities j) → FirstAbove place end capacities minimums (refused Minimum at)
