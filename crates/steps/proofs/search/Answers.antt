-- `search` meets its contract: the first eligible place is where it stopped, and each one before was passed over.
use mathlib.Core.Bool.{false}
use mathlib.Core.Path.{◌≡◌, refl, sym, ◌∙◌}
use native.Mathlib.Omega.{arith}
use borrow.Author.Count.{below_more}
use Rattle.rows.specs.Row.{at_place}
use Rattle.table.specs.Table.{table_of}
use Rattle.run.specs.Push.{eligible}
use Rattle.run.specs.Rows.{state_of}
use Rattle.steps.proofs.search.Goals as goal

pub returns-then-eligible : goal.returns-then-eligible
returns-then-eligible c n s t heads excess ends_are none =
    let here = c.loop-j-test.true in (
      here,
      refl,
      c.loop-j.invariant n s t heads excess ends_are none,
      sym (c.eligible.ensures n s t heads excess (ends_are c.loop-j.j here)) ∙ c.if-eligible.true,
      ends_are c.loop-j.j here,
    )

pub loop-j-preserved : goal.loop-j-preserved
loop-j-preserved c n s t heads excess ends_are none j below =
    let given = c.args in
    below_more (λ q. eligible (table_of n s t given.table.now.tails.now heads given.table.now.capacities.now) (state_of given.flow.now excess given.labels.now) given.i (at_place given.list.now q) ≡ false) c.loop-j.j
    (c.loop-j.invariant n s t heads excess ends_are none)
    (sym (c.eligible.ensures n s t heads excess (ends_are c.loop-j.j c.loop-j-test.true)) ∙ c.if-eligible.false) j below

pub returns : goal.returns
returns c n s t heads excess ends_are none j below = c.loop-j.invariant n s t heads excess ends_are none j (omega (arith, below, c.loop-j-test.false))
