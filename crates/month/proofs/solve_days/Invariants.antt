-- `solve_days` meets its contract. The loop's invariant: the first j days are solved.
use mathlib.Core.Path.{◌≡◌}
use Rattle.days.specs.Days.{days_in, held, first_days}
use Rattle.tally.specs.Sums.{no_tally}
use Rattle.month.proofs.solve_days.Given as goal

abbrev pub invariant-loop-j : goal.invariant-loop-j
invariant-loop-j l =
    held l.tally l.flow l.side l.work l.answers ≡ first_days (days_in l.days) l.j (held no_tally l.initial.flow l.initial.side l.initial.work l.initial.answers)
