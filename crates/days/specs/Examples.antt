-- Worked examples, by computation: the whole call's refusals, of two days of one arc each; and a month of three days.
use Rattle.std.specs.Prelude.{◌≡◌, refl, List, [], ◌∷◌, ◌++◌, ℕ, replicate}
use Rattle.rows.specs.Sum.{sum}
use Rattle.network.specs.Network.{inflow, outflow}
use Rattle.table.specs.Checks.{outside, differ, bad_ends, arc_fault, or_else, in_order, no_refusal, refused}
use Rattle.table.specs.declared.Name.TheVariants.{Rows, Room, Starts}
use Rattle.minimums.specs.Checks.{differ_four, bounded_sizes, bounded_fault, first_bounded_fault, all_zero}
use Rattle.reach.specs.Side.{side_from}
use Rattle.run.specs.Scale.{phase_count, scale_of}
use Rattle.run.specs.Phase.{run, value}
use Rattle.solver.specs.Solving.{has_room, answer_with, solved, solving_as}
use Rattle.verdicts.specs.Plain.{plain_solving}
use Rattle.tally.specs.Sums.{counted, tallied}
use Rattle.days.specs.Days.{Days, days_of, next_day, first_days}
use Rattle.days.specs.Month.{starts_fall, rows_differ, has_month_room, verdict_of, month_verdict, month_left, month_as, month}

-- ---- refusals of the whole call: rows of two, with room for 2 flows, 1,024 marks and 18 numbers

-- The two days, with these starts and minimums.
abbrev two : (starts minimums : List ℕ) → Days
two starts minimums = days_of starts (2 ∷ 2 ∷ []) (1 ∷ 1 ∷ []) (2 ∷ 2 ∷ []) (7 ∷ 8 ∷ []) (1 ∷ 1 ∷ []) (2 ∷ 2 ∷ []) (3 ∷ 4 ∷ []) minimums

-- Each day has one arc; the first day may have none, or start behind earlier places.
one_each : month_verdict (two (0 ∷ 1 ∷ []) (0 ∷ 0 ∷ [])) 2 1024 18 ≡ no_refusal
unfolding verdict_of rows_differ starts_fall has_month_room differ differ_four
one_each = refl

behind_earlier_places : month_verdict (two (1 ∷ 1 ∷ []) (0 ∷ 0 ∷ [])) 2 1024 18 ≡ no_refusal
unfolding verdict_of rows_differ starts_fall has_month_room differ differ_four
behind_earlier_places = refl

-- Starts that fall, and one that passes the rows' end.
falls : month_verdict (two (1 ∷ 0 ∷ []) (0 ∷ 0 ∷ [])) 2 1024 18 ≡ refused Starts 0
unfolding verdict_of rows_differ starts_fall has_month_room differ differ_four
falls = refl

passes : month_verdict (two (0 ∷ 3 ∷ []) (0 ∷ 0 ∷ [])) 2 1024 18 ≡ refused Starts 0
unfolding verdict_of rows_differ starts_fall has_month_room differ differ_four
passes = refl

-- A missing minimum is ROWS, before STARTS; one mark or one number too few is ROOM.
rows_first : month_verdict (two (1 ∷ 0 ∷ []) (0 ∷ [])) 2 1024 18 ≡ refused Rows 0
unfolding verdict_of rows_differ starts_fall has_month_room differ differ_four
rows_first = refl

short_side : month_verdict (two (0 ∷ 1 ∷ []) (0 ∷ 0 ∷ [])) 2 1023 18 ≡ refused Room 0
unfolding verdict_of rows_differ starts_fall has_month_room differ differ_four
short_side = refl

-- ---- a month of three days: P2, a day whose arc is a loop, P3

-- The three days: 1>2 takes 5; 1>1 takes 5; 1>2 takes 4 and 2>3 takes 3. Their stamps are 7, 8 and 9.
abbrev three : Days
three =
    days_of (0 ∷ 1 ∷ 2 ∷ []) (2 ∷ 2 ∷ 3 ∷ []) (1 ∷ 1 ∷ 1 ∷ []) (2 ∷ 2 ∷ 3 ∷ []) (7 ∷ 8 ∷ 9 ∷ [])
    (1 ∷ 1 ∷ 1 ∷ 2 ∷ []) (2 ∷ 1 ∷ 2 ∷ 3 ∷ []) (5 ∷ 5 ∷ 4 ∷ 3 ∷ []) (0 ∷ 0 ∷ 0 ∷ 0 ∷ [])

-- Two tables are solved, 8 in all, and the third day has the least value; the second day is LOOP at place 0 and leaves its flow and its marks. Every
-- lent row is full of sixes and one place longer than it has to be: what no day writes is six afterwards.
three_days :
    month three (replicate 5 6) (replicate 1537 6) (replicate 18 6) (replicate 28 6)
    ≡ month_left (record { refusal = 0; place = 0; solved = 2; total = 8; day = 3 })
    (5 ∷ 6 ∷ 3 ∷ 3 ∷ 6 ∷ [])
    (1 ∷ 0 ∷ (replicate 1022 6 ++ (1 ∷ 1 ∷ 0 ∷ replicate 510 6)))
    (replicate 17 0 ++ (6 ∷ []))
    (0 ∷ 0 ∷ 7 ∷ 5 ∷ 0 ∷ 0 ∷ 0 ∷ 0 ∷ 0 ∷ 7 ∷ 0 ∷ 0 ∷ 0 ∷ 0 ∷ 0 ∷ 0 ∷ 0 ∷ 0 ∷ 0 ∷ 0 ∷ 9 ∷ 3 ∷ 4 ∷ 3 ∷ 1 ∷ 1 ∷ 1 ∷ 6 ∷ [])
unfolding month month_as first_days next_day verdict_of rows_differ starts_fall has_month_room differ differ_four plain_solving has_room bounded_sizes first_bounded_fault bounded_fault arc_fault outside bad_ends or_else in_order all_zero solving_as solved answer_with run value inflow outflow sum phase_count scale_of side_from tallied counted
three_days = refl
