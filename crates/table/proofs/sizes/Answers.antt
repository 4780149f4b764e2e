-- `sizes` meets its contract: at each return the tests that led there say which case of `sizes_of` holds.
use Rattle.table.specs.Checks.{sizes_of}
use borrow.Author.Tests.{lt-ltb, le-ltb}
use Rattle.table.proofs.sizes.Goals as goal

pub returns-then-is_outside : goal.returns-then-is_outside
unfolding sizes_of
returns-then-is_outside c = simp (← c.is_outside.ensures, c.if-is_outside.true, c.at.ensures)

pub returns-then-do_differ : goal.returns-then-do_differ
unfolding sizes_of
returns-then-do_differ c = simp (← c.is_outside.ensures, c.if-is_outside.false, ← c.do_differ.ensures, c.if-do_differ.true, c.at-then-do_differ.ensures)

pub returns-then-tails-gt4096 : goal.returns-then-tails-gt4096
unfolding sizes_of
returns-then-tails-gt4096 c = simp (← c.is_outside.ensures, c.if-is_outside.false, ← c.do_differ.ensures, c.if-do_differ.false, lt-ltb _ _ c.if-tails-gt4096.true, c.at-then-tails-gt4096.ensures)

pub returns-then-are_bad_ends : goal.returns-then-are_bad_ends
unfolding sizes_of
returns-then-are_bad_ends c =
    simp (← c.is_outside.ensures, c.if-is_outside.false, ← c.do_differ.ensures, c.if-do_differ.false, le-ltb _ _ c.if-tails-gt4096.false, ← c.are_bad_ends.ensures, c.if-are_bad_ends.true, c.at-then-are_bad_ends.ensures)

pub returns : goal.returns
unfolding sizes_of
returns c =
    simp (← c.is_outside.ensures, c.if-is_outside.false, ← c.do_differ.ensures, c.if-do_differ.false, le-ltb _ _ c.if-tails-gt4096.false, ← c.are_bad_ends.ensures, c.if-are_bad_ends.false)
