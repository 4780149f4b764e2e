-- `do_rows_differ` meets its contract: the rows by arc, then those by day.
use borrow.Author.Tests.{eq-eqb, ne_eqb}
use mathlib.Core.Path.{ap}
use mathlib.Core.Bool.{not}
use Rattle.minimums.specs.Checks.{differ_four}
use Rattle.days.specs.Month.{rows_differ}
use Rattle.days.proofs.Starting.{last_of_four}
use Rattle.month.proofs.do_rows_differ.Goals as goal

pub returns-then-do_differ : goal.returns-then-do_differ
unfolding rows_differ differ_four
returns-then-do_differ c = simp (← c.do_differ.ensures, c.if-do_differ.true)

pub returns-then-m-days : goal.returns-then-m-days
unfolding rows_differ differ_four
returns-then-m-days c = simp (← c.do_differ.ensures, c.if-do_differ.false, ne_eqb _ _ c.if-m-days.true)

pub returns-then-do_differ-2 : goal.returns-then-do_differ-2
unfolding rows_differ differ_four
returns-then-do_differ-2 c =
    simp (← c.do_differ.ensures, c.if-do_differ.false, eq-eqb _ _ c.if-m-days.false, ← c.do_differ-2.ensures, c.if-do_differ-2.true)

pub returns : goal.returns
unfolding rows_differ differ_four
returns c =
    last_of_four c.do_differ.ensures c.if-do_differ.false (ap not (eq-eqb _ _ c.if-m-days.false)) c.do_differ-2.ensures c.if-do_differ-2.false c.do_differ-3.ensures
