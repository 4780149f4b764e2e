-- `shorter` meets its contract: each return is the case that its tests left.
use borrow.Author.Tests.{lt-ltb, le-ltb}
use Rattle.shorter.specs.Shorter.{shorter_of}
use Rattle.shorter.proofs.shorter.Goals as goal

pub returns-then-first-in_first : goal.returns-then-first-in_first
unfolding shorter_of
returns-then-first-in_first c = simp (lt-ltb _ _ c.if-first-in_first.true) c.filled_part.ensures

pub returns-then-second-in_second : goal.returns-then-second-in_second
unfolding shorter_of
returns-then-second-in_second c =
    simp (le-ltb _ _ c.if-first-in_first.false, lt-ltb _ _ c.if-second-in_second.true) c.filled_part-then-second-in_second.ensures

pub returns-then-in_second-in_first : goal.returns-then-in_second-in_first
unfolding shorter_of
returns-then-in_second-in_first c =
    simp (
      le-ltb _ _ c.if-first-in_first.false,
      le-ltb _ _ c.if-second-in_second.false,
      lt-ltb _ _ c.if-in_second-in_first.true,
    ) c.filled_part-then-in_second-in_first.ensures

pub returns : goal.returns
unfolding shorter_of
returns c =
    simp (
      le-ltb _ _ c.if-first-in_first.false,
      le-ltb _ _ c.if-second-in_second.false,
      le-ltb _ _ c.if-in_second-in_first.false,
    ) c.filled_part-2.ensures
