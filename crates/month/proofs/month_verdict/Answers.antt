-- `month_verdict` meets its contract: at each return the tests that led there say which case holds.
use borrow.Author.Tests.{lt-ltb, le-ltb}
use Rattle.days.specs.Month.{verdict_of}
use Rattle.month.proofs.month_verdict.Goals as goal

pub returns-then-days-gt31 : goal.returns-then-days-gt31
unfolding verdict_of
returns-then-days-gt31 c = simp (lt-ltb _ _ c.if-days-gt31.true, c.at.ensures)

pub returns-then-do_rows_differ : goal.returns-then-do_rows_differ
unfolding verdict_of
returns-then-do_rows_differ c = simp (le-ltb _ _ c.if-days-gt31.false, ← c.do_rows_differ.ensures, c.if-do_rows_differ.true, c.at-then-do_rows_differ.ensures)

pub returns-then-do_fall : goal.returns-then-do_fall
unfolding verdict_of
returns-then-do_fall c =
    simp (le-ltb _ _ c.if-days-gt31.false, ← c.do_rows_differ.ensures, c.if-do_rows_differ.false, ← c.do_fall.ensures, c.if-do_fall.true, c.at-then-do_fall.ensures)

pub returns-then-not-has_month_room : goal.returns-then-not-has_month_room
unfolding verdict_of
returns-then-not-has_month_room c =
    simp (le-ltb _ _ c.if-days-gt31.false, ← c.do_rows_differ.ensures, c.if-do_rows_differ.false, ← c.do_fall.ensures, c.if-do_fall.false, ← c.has_month_room.ensures, c.if-not-has_month_room.true, c.at-then-not-has_month_room.ensures)

pub returns : goal.returns
unfolding verdict_of
returns c =
    simp (le-ltb _ _ c.if-days-gt31.false, ← c.do_rows_differ.ensures, c.if-do_rows_differ.false, ← c.do_fall.ensures, c.if-do_fall.false, ← c.has_month_room.ensures, c.if-not-has_month_room.false)
