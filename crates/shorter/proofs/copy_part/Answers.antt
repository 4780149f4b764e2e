-- `copy_part` meets its contract: ROOM where the row is too short, and else the numbers in front of its later places.
use mathlib.Core.Path.{◌≡◌, refl, sym, ◌∙◌}
use native.Mathlib.Omega.{arith}
use lib.ListN.{length}
use lib.Seq.{take-length}
use Rattle.rows.proofs.Storing.{sets_front}
use Rattle.listing.proofs.Ranking.{copy_on}
use Rattle.shorter.proofs.Copying.{copied_short, copied_whole}
use Rattle.shorter.proofs.copy_part.Goals as goal

pub returns-then-row-numbers : goal.returns-then-row-numbers
returns-then-row-numbers c = copied_short _ _ c.number.result c.number.ensures c.if-row-numbers.true

pub loop-k-preserved : goal.loop-k-preserved
loop-k-preserved c =
    let numbers = c.args.numbers.now in
    copy_on numbers _ c.args.row.now c.loop-k.k _ (omega arith) (omega (arith, c.if-row-numbers.false)) refl c.loop-k.invariant

pub returns : goal.returns
returns c =
    let numbers = c.args.numbers.now in
    let all : c.loop-k.k ≡ length numbers = omega arith in
    copied_whole _ _ _ c.if-row-numbers.false (c.loop-k.invariant ∙ rw (all, take-length numbers) (sym (sets_front c.args.row.now numbers c.if-row-numbers.false)))
